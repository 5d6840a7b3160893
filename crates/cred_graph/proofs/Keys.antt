-- The keys of the tables are found the same exactly where they are equal.
use Rattle.std.proofs.Common.{ℕ, ◌≡◌, ◌==◌, ◌&&◌, ap, Bool, rules}
use Rattle.std.specs.Bool.{Decides}
use Rattle.std.proofs.lemmas.Bool.Decides.{Decides-and, Decides-eqb}
use Rattle.cred_graph.specs.declared.listeners.KeptListening.{KeptListening}
use Rattle.cred_graph.specs.contracts.listeners.KeptListeningPartialEq.TheImpl as kept

pub kept_decided : (a b : KeptListening) → Decides (kept.ghosts.eq a b) (a ≡ b)
kept_decided a b = search rules

pairs_decided : {A B : Type 0} (first : A → A → Bool) (second : B → B → Bool) → ((x y : A) → Decides (first x y) (x ≡ y)) → ((x y : B) → Decides (second x y) (x ≡ y)) →
    (a b : A × B) → Decides (first a.0 b.0 && second a.1 b.1) (a ≡ b)
pairs_decided first second first_exact second_exact a b =
    let both = Decides-and (first a.0 b.0) (second a.1 b.1) (first_exact a.0 b.0) (second_exact a.1 b.1) in
    (λ same. let is = both.0 same in λ i. (is.0 i, is.1 i), λ same. both.1 (ap (λ x. x.0) same, ap (λ x. x.1) same))

abbrev pub far_eq : ℕ × KeptListening → ℕ × KeptListening → Bool
far_eq a b = (a.0 == b.0) && kept.ghosts.eq a.1 b.1

pub far_decided : (a b : ℕ × KeptListening) → Decides (far_eq a b) (a ≡ b)
far_decided = pairs_decided ◌==◌ kept.ghosts.eq Decides-eqb kept_decided

abbrev pub solved_eq : ℕ × ℕ → ℕ × ℕ → Bool
solved_eq a b = (a.0 == b.0) && (a.1 == b.1)

pub solved_decided : (a b : ℕ × ℕ) → Decides (solved_eq a b) (a ≡ b)
solved_decided = pairs_decided ◌==◌ ◌==◌ Decides-eqb Decides-eqb
