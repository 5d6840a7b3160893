-- What is held alone, or copied where others hold it too.
use Rattle.std.proofs.Common.{List, ◌≡◌, ◌⊎◌, inl, inr}
use Rattle.std.specs.List.{AllZip}
use Rattle.std.proofs.lemmas.List.Elements.{same_from_all_zip}
use Rattle.credential_text.specs.declared.credentials.Credential.{Credential}

pub same_rows : (old new : List Credential) (Alone Sized : Type 0) → (Alone → new ≡ old) → Alone ⊎ (AllZip (λ (row copy : Credential). copy ≡ row) old new × Sized) → new ≡ old
same_rows old new Alone Sized same (inl alone) = same alone
same_rows old new Alone Sized same (inr copied) = same_from_all_zip (λ (row copy : Credential). copy ≡ row) old new copied.0 (λ _ _ e. e)
