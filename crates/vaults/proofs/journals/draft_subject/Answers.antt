-- What is for one reader is about its name, which takes no memory.
use Rattle.std.proofs.Common.{refl, ap, length}
use mathlib.Core.Logic.{inl, inr}
use Rattle.vaults.proofs.journals.draft_subject.Goals as goal

pub returns-in-Grant-clause-subject : goal.returns-in-Grant-clause-subject
returns-in-Grant-clause-subject c = elim c.in-Grant.is [ inl e ↦ rw e | inr e ↦ rw e ]

pub returns-in-Grant-clause-names : goal.returns-in-Grant-clause-names
returns-in-Grant-clause-names c =
    let named = c.bytes.ensures.name in
    elim c.in-Grant.is [ inl e ↦ rw e named | inr e ↦ rw e named ]

pub returns-in-Grant-clause-size : goal.returns-in-Grant-clause-size
returns-in-Grant-clause-size c =
    let long = ap length c.bytes.ensures.value in
    elim c.in-Grant.is [ inl e ↦ rw e long | inr e ↦ rw e long ]

pub returns-in-Grant-clause-revocable : goal.returns-in-Grant-clause-revocable
returns-in-Grant-clause-revocable c = λ revoked. refl
