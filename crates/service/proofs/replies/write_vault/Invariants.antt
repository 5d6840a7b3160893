use Rattle.std.proofs.Common.{◌≡◌, ◌++◌, length, map, take, codes}
use Rattle.std.specs.List.{flat_map}
use Rattle.std.specs.Fmt.{decimal}
use Rattle.credential_text.specs.Spelling.{canonical}
use Rattle.vaults.specs.Blocks.{rows_in}
use Rattle.service.specs.Reply.{front_of, line_after}
use Rattle.service.proofs.replies.write_vault.Given as goal

-- the lines of the first credentials stand behind the one with their number
abbrev pub invariant-loop-place : goal.invariant-loop-place
invariant-loop-place l =
    l.buffer ≡ line_after (front_of l.who) (codes "vault " ++ decimal (length (rows_in l.rows))) ++ flat_map (line_after (front_of l.who)) (take l.place (map canonical (rows_in l.rows)))
