use Rattle.std.proofs.Common.{◌++◌}
use Rattle.vaults.specs.Kept.{subject_of, framed}
use Rattle.vaults.proofs.Keeping.{behind_kind, some_bytes}
use Rattle.vaults.proofs.entries.cut_entry.Goals as goal

pub returns-in_default-clause-entry : goal.returns-in_default-clause-entry
returns-in_default-clause-entry c = λ e rest same. some_bytes e c.args.bytes.now rest c.in_default.len_below same

pub returns-in_default-cut_framed-clause-entry : goal.returns-in_default-cut_framed-clause-entry
returns-in_default-cut_framed-clause-entry c = λ e rest same.
    c.in_default-cut_framed.ensures e.tenant (framed (subject_of e.change) ++ rest) (behind_kind e c.args.bytes.now rest same).1

pub returns-in_default-cut_framed-2-clause-entry : goal.returns-in_default-cut_framed-2-clause-entry
returns-in_default-cut_framed-2-clause-entry c = λ e rest same.
    c.in_default-cut_framed-2.ensures (subject_of e.change) rest
    (c.in-Some.ensures e.tenant (framed (subject_of e.change) ++ rest) (behind_kind e c.args.bytes.now rest same).1).1

pub returns-clause-entry : goal.returns-clause-entry
returns-clause-entry c = λ e rest same.
    let parts : _ = behind_kind e c.args.bytes.now rest same in
    let first : _ = c.in-Some.ensures e.tenant (framed (subject_of e.change) ++ rest) parts.1 in
    let second : _ = c.in-Some-cut_framed.ensures (subject_of e.change) rest first.1 in
    (parts.0, first.0, second.0, second.1)
