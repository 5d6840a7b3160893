-- What the reader finds in the parts of a text.
use Rattle.std.specs.Prelude.{ℕ, List, ◌≡◌, Some, IsTrue, map}
use Rattle.std.specs.List.{list_all}
use Rattle.names.specs.Role.{role_text}
use Rattle.credential_text.specs.declared.intersections.Part.{Part}
use Rattle.credential_text.specs.declared.exprs.Expr.{Expr}
use Rattle.credential_text.specs.declared.credentials.Credential.{Credential}
use Rattle.credential_text.specs.Part.{has_names, part_text, is_based_on}
use Rattle.credential_text.specs.Expr.{expr_parts, HasPartsInRange}
use Rattle.credential_text.specs.Credential.{IsCredential}
use Rattle.names.specs.Texts.{trim}
use Rattle.credential_text.specs.Refusal.{split_arrow, part_texts}

-- the text is that of the part, its names are names, and a linked role in it is based on the owner's role
pub record ReadsAs (owner : List ℕ) (text : List ℕ) (p : Part) : Type 0 where
  pub named : IsTrue (has_names p)
  pub based : IsTrue (is_based_on owner p)
  pub spelled : text ≡ part_text p

-- the same of texts and parts, one by one
pub record ReadsParts (owner : List ℕ) (texts : List (List ℕ)) (ps : List Part) : Type 0 where
  pub named : IsTrue (list_all has_names ps)
  pub based : IsTrue (list_all (is_based_on owner) ps)
  pub spelled : texts ≡ map part_text ps

-- the same of the texts of a body, and the parts are those of an expression
pub record ReadsBody (owner : List ℕ) (body : List ℕ) (e : Expr) : Type 0 where
  pub named : IsTrue (list_all has_names (expr_parts e))
  pub based : IsTrue (list_all (is_based_on owner) (expr_parts e))
  pub texts : part_texts body ≡ map part_text (expr_parts e)
  pub range : HasPartsInRange e

-- before the first arrow the text shows the credential's head, and after it the parts of its body
pub record Shows (text : List ℕ) (c : Credential) : Type 0 where
  pub is_credential : IsCredential c
  pub before : List ℕ
  pub after : List ℕ
  pub arrow : split_arrow text ≡ Some (before, after)
  pub head : trim before ≡ role_text c.head
  pub body : part_texts after ≡ map part_text (expr_parts c.body)
