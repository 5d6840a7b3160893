-- A search goes on by a step of a hall, or by steps of its own.
use Rattle.std.proofs.Common.{◌∙◌, ℕ, refl, subst, subst₂, inl}
use Rattle.vaults.specs.Journal.{credentials}
use Rattle.snapshots.specs.Snapshot.{SnapshotState}
use Rattle.search.specs.declared.queries.Query.{Query}
use Rattle.search.specs.Ending.{Settled, MaySettle}
use Rattle.search.specs.Search.{SearchState, SameQuestion, settled_of}
use Rattle.search.specs.Finish.{IsDriven}
use Rattle.hall.proofs.Truths.{settles_twice}
use Rattle.hall.proofs.SearchSteps.{SearchGoesOn, staged, finish_keeps}

-- what a search may come to depends on its question alone
settles_from : (old new : SearchState) (a b : Settled) → SameQuestion old new →
    MaySettle new.work (credentials new.snapshot.vaults) new.query a b →
    MaySettle old.work (credentials old.snapshot.vaults) old.query a b
settles_from old new a b same may =
    subst (λ (x : SnapshotState). MaySettle old.work (credentials x.vaults) old.query a b) same.snapshot
    (subst₂ (λ (n : ℕ) (q : Query). MaySettle n (credentials new.snapshot.vaults) q a b) same.work same.query may)

pub goes_nowhere : (s : SearchState) → SearchGoesOn s s
goes_nowhere s = record { question = record { query = refl; work = refl; snapshot = refl }; settles = inl refl }

pub goes_twice : (s t u : SearchState) → SearchGoesOn s t → SearchGoesOn t u → SearchGoesOn s u
goes_twice s t u first second = record {
  question = record {
    query = second.question.query ∙ first.question.query;
    work = second.question.work ∙ first.question.work;
    snapshot = second.question.snapshot ∙ first.question.snapshot;
  };
  settles =
      settles_twice s.work (credentials s.snapshot.vaults) s.query (settled_of s) (settled_of t) (settled_of u) first.settles
      (settles_from s t (settled_of t) (settled_of u) first.question second.settles);
}

-- a search that carries itself on goes on
pub drives_on : (s t : SearchState) → IsDriven s t → SearchGoesOn s t
drives_on s t IsDriven.rests = goes_nowhere s
drives_on s t (IsDriven.signal {middle} before first) =
    goes_twice s middle t (drives_on s middle before) (record { question = first.question; settles = first.settles })
drives_on s t (IsDriven.letter {middle} {number} {need} {told} before first) =
    goes_twice s middle t (drives_on s middle before)
    (goes_twice middle first.held t
    (record { question = staged middle first.held _ first.takes.after; settles = first.takes_settles })
    (record { question = finish_keeps first.held t number _ told first.finishes; settles = first.finish_settles }))
