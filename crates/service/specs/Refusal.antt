-- The number and the text of each refusal.
use Rattle.std.specs.Prelude.{ℕ, List, [], ◌∷◌, ◌==◌, Option, option_map, find, codes}
use Rattle.names.specs.Fault.{name_fault_number}
use Rattle.credential_text.specs.Fault.{cred_fault_number}
use Rattle.service.specs.declared.refusals.Refusal.{Refusal}
use Rattle.service.specs.declared.refusals.Refusal.TheVariants as refusal

-- the number of a refusal
abbrev pub refusal_number : Refusal → ℕ
refusal_number (refusal.Name fault) = name_fault_number fault
refusal_number (refusal.Credential fault) = cred_fault_number fault
refusal_number refusal.NoHello = 61
refusal_number refusal.BadHello = 62
refusal_number refusal.Command = 64
refusal_number refusal.LineLong = 65
refusal_number refusal.NotAscii = 66
refusal_number refusal.Memory = 90

-- the number of each refusal that a reply can be, and its text
abbrev pub refusals : List (ℕ × List ℕ)
refusals =
    (11, codes "empty name") ∷ (12, codes "name start") ∷ (13, codes "name byte") ∷ (14, codes "name too long")
    ∷ (15, codes "not a role") ∷ (21, codes "no arrow") ∷ (22, codes "head") ∷ (23, codes "empty body")
    ∷ (24, codes "too many dots") ∷ (25, codes "link base") ∷ (26, codes "parts") ∷ (27, codes "credential too long")
    ∷ (31, codes "not issuer") ∷ (32, codes "already held") ∷ (33, codes "not held")
    ∷ (34, codes "already granted") ∷ (35, codes "not granted") ∷ (36, codes "grant self") ∷ (41, codes "creds limit")
    ∷ (42, codes "grants limit") ∷ (43, codes "searches limit") ∷ (44, codes "changes limit") ∷ (45, codes "opens limit")
    ∷ (51, codes "no such search") ∷ (52, codes "not done") ∷ (53, codes "no proof") ∷ (61, codes "no hello")
    ∷ (62, codes "bad hello") ∷ (63, codes "roster") ∷ (64, codes "command") ∷ (65, codes "line too long")
    ∷ (66, codes "not ascii") ∷ (90, codes "memory") ∷ (91, codes "rewound") ∷ []

-- the text of a number, if it is that of a refusal
abbrev pub refusal_of : ℕ → Option (List ℕ)
refusal_of number = option_map (λ r. r.1) (find (λ r. r.0 == number) refusals)
