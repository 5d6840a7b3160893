-- Lemmas on the lines of a roster.
use Rattle.std.proofs.Common.{◌≡◌, ℕ, ◌<◌, ◌≤◌, Bool, List, [], ◌∷◌, ◌++◌, map, length, true, false, arith, refl, sym, ap, ◌∙◌, subst, append_assoc}
use Rattle.std.proofs.Common.{Result, Ok, Err, ◌⊎◌, inl, inr}
use Rattle.std.specs.Prelude.{OnOk, IfErr, codes, ◌||◌, is_ok, if◌then◌else◌}
use Rattle.std.specs.List.{AllZip, IsDistinct, list_any}
use Rattle.std.specs.Result.{result_or}
use Rattle.std.proofs.lemmas.Cmp.{nat_list_eq_equiv}
use Rattle.std.proofs.lemmas.List.{append-nil, length-append, map-append}
use Rattle.std.proofs.lemmas.List.Elements.{All-from_recursion, All-contains, Contains-append_right}
use Rattle.std.proofs.lemmas.Map.Keys.{IsDistinct-head, IsDistinct-tail, IsDistinct-push}
use Rattle.names.specs.Name.{is_same}
use Rattle.quotas.specs.Quota.{Quota}
use Rattle.service.specs.declared.faults.ScriptFault.{ScriptFault}
use Rattle.service.specs.declared.faults.ScriptFault.TheVariants as fault
use Rattle.service.specs.Line.{Line, text, too_long, not_ascii}
use Rattle.service.specs.Words.{words}
use Rattle.service.specs.Roster.{RosterLine, IsRow, HasRoster, HasNoRoster, IsRoster, names_of}
use Rattle.service.proofs.LimitLemmas.{IsLimits-unique}

-- the lines are those of the rows, one each, then `begin`, and these follow
abbrev pub HasRows : List Line → List RosterLine → List Line → Type 0
HasRows [] rows rest = ⊥
HasRows (too_long ∷ lines) rows rest = ⊥
HasRows (not_ascii ∷ lines) rows rest = ⊥
HasRows (text line ∷ lines) [] rest = (words line ≡ codes "begin" ∷ []) × (lines ≡ rest)
HasRows (text line ∷ lines) (row ∷ rows) rest = IsRow line row × HasRows lines rows rest

-- a roster has its rows
pub HasRoster-rows : (lines : List Line) (rows : List RosterLine) (rest : List Line) → HasRoster lines rows rest → HasRows lines rows rest
HasRoster-rows lines rows rest has = subst (λ (ls : List Line). HasRows ls rows rest) (sym has.split) (by has.texts rows has.one_each)
  where
    by : (texts : List (List ℕ)) (some : List RosterLine) → AllZip IsRow texts some → HasRows (map text texts ++ text has.begin ∷ rest) some rest
    by [] [] all = (has.ends, refl)
    by [] (row ∷ some) all = absurd all
    by (line ∷ texts) [] all = absurd all
    by (line ∷ texts) (row ∷ some) all = (all.0, by texts some all.1)

-- the lines of rows, and that of `begin`
rows_parted : (lines : List Line) (rows : List RosterLine) (rest : List Line) → HasRows lines rows rest →
    (texts : List (List ℕ)) × (begin : List ℕ) × (lines ≡ map text texts ++ text begin ∷ rest) × AllZip IsRow texts rows × (words begin ≡ codes "begin" ∷ [])
rows_parted [] rows rest has = absurd has
rows_parted (too_long ∷ lines) rows rest has = absurd has
rows_parted (not_ascii ∷ lines) rows rest has = absurd has
rows_parted (text line ∷ lines) [] rest has = ([], line, ap (λ (ls : List Line). text line ∷ ls) has.1, tt, has.0)
rows_parted (text line ∷ lines) (row ∷ rows) rest has =
    let (texts, begin, split, all, ends) = rows_parted lines rows rest has.1 in
    (line ∷ texts, begin, ap (λ (ls : List Line). text line ∷ ls) split, (has.0, all), ends)

-- such rows are a roster where they may be one
HasRoster-from : (lines : List Line) (rows : List RosterLine) (rest : List Line) → HasRows lines rows rest → IsRoster rows → HasRoster lines rows rest
HasRoster-from lines rows rest has roster =
    let (texts, begin, split, all, ends) = rows_parted lines rows rest has in
    record { texts = texts; begin = begin; split = split; one_each = all; ends = ends; roster = roster }

-- rows of the same three parts are the same
pub same_row : (row other : RosterLine) → row.name ≡ other.name → row.word ≡ other.word → row.limits ≡ other.limits → row ≡ other
same_row row other name word limits =
    ap (λ (n : List ℕ). record { name = n; word = row.word; limits = row.limits }) name
    ∙ ap (λ (w : List ℕ). record { name = other.name; word = w; limits = row.limits }) word
    ∙ ap (λ (q : Quota). record { name = other.name; word = other.word; limits = q }) limits

-- a line is one row at most
IsRow-unique : (line : List ℕ) (row other : RosterLine) → IsRow line row → IsRow line other → row ≡ other
IsRow-unique line row other is also =
    let numbers : is.numbers ≡ also.numbers = cc in
    same_row row other (cc) (cc) (IsLimits-unique also.numbers row.limits other.limits (rw numbers at is.limits) also.limits)

-- with one name
pub IsRow-named : (line : List ℕ) (row other : RosterLine) → IsRow line row → IsRow line other → row.name ≡ other.name
IsRow-named line row other is also = ap (λ (r : RosterLine). r.name) (IsRow-unique line row other is also)

-- rows whose lines begin with that of a tenant begin with it
HasRows-row : (line : List ℕ) (others : List Line) (row : RosterLine) (all : List RosterLine) (after : List Line) → IsRow line row → HasRows (text line ∷ others) all after → (more : List RosterLine) × (all ≡ row ∷ more) × HasRows others more after
HasRows-row line others row [] after is has =
    let begin : words line ≡ codes "begin" ∷ [] = has.0 in let tenant = is.by_words in absurd (cc)
HasRows-row line others row (other ∷ more) after is has = (more, ap (λ (r : RosterLine). r ∷ more) (IsRow-unique line other row has.0 is), has.1)

-- there are no rows where the lines begin with `begin`
HasRows-begin : (line : List ℕ) (others : List Line) (all : List RosterLine) (after : List Line) → words line ≡ codes "begin" ∷ [] → HasRows (text line ∷ others) all after → (all ≡ []) × (others ≡ after)
HasRows-begin line others [] after begin has = (refl, has.1)
HasRows-begin line others (row ∷ more) after begin has = let tenant = has.0.by_words in absurd (cc)

-- lines are one list of rows at most
HasRows-unique : (lines : List Line) (rows others : List RosterLine) (rest after : List Line) → HasRows lines rows rest → HasRows lines others after → (rows ≡ others) × (rest ≡ after)
HasRows-unique [] rows others rest after has also = absurd has
HasRows-unique (too_long ∷ lines) rows others rest after has also = absurd has
HasRows-unique (not_ascii ∷ lines) rows others rest after has also = absurd has
HasRows-unique (text line ∷ lines) [] others rest after has also =
    let end = HasRows-begin line lines others after has.0 also in (sym end.0, sym has.1 ∙ end.1)
HasRows-unique (text line ∷ lines) (row ∷ rows) others rest after has also =
    let first = HasRows-row line lines row others after has.0 also in
    let same = HasRows-unique lines rows first.0 rest after has.1 first.2 in
    (ap (λ (more : List RosterLine). row ∷ more) same.0 ∙ sym first.1, same.1)

-- lines begin with one roster at most
pub HasRoster-unique : (lines : List Line) (rows others : List RosterLine) (rest after : List Line) → HasRoster lines rows rest → HasRoster lines others after → (rows ≡ others) × (rest ≡ after)
HasRoster-unique lines rows others rest after has also = HasRows-unique lines rows others rest after (HasRoster-rows lines rows rest has) (HasRoster-rows lines others after also)

-- The first of these lines are the rows, and these are left.
pub record LeavesLines (lines : List Line) (rows : List RosterLine) (left : List Line) : Type 0 where
  pub joins : (more : List RosterLine) (after : List Line) → HasRows left more after → HasRows lines (rows ++ more) after
  pub splits : (all : List RosterLine) (after : List Line) → HasRows lines all after → (more : List RosterLine) × (all ≡ rows ++ more) × HasRows left more after

-- at first all are left
pub LeavesLines-all : (lines : List Line) → LeavesLines lines [] lines
LeavesLines-all lines = record { joins = λ more after has. has; splits = λ all after has. (all, refl, has) }

-- one row more
pub LeavesLines-row : (lines : List Line) (rows : List RosterLine) (left : List Line) (line : List ℕ) (others : List Line) (row : RosterLine) → LeavesLines lines rows left → left ≡ text line ∷ others → IsRow line row → LeavesLines lines (rows ++ row ∷ []) others
LeavesLines-row lines rows left line others row so_far first is = record {
  joins = λ more after has.
      subst (λ (all : List RosterLine). HasRows lines all after) (sym (append_assoc rows (row ∷ []) more))
      (so_far.joins (row ∷ more) after (subst (λ (there : List Line). HasRows there (row ∷ more) after) (sym first) (is, has)));
  splits = λ all after has.
      let parts = so_far.splits all after has in
      let next = HasRows-row line others row parts.0 after is (subst (λ (there : List Line). HasRows there parts.0 after) first parts.2) in
      (next.0, parts.1 ∙ ap (λ (more : List RosterLine). rows ++ more) next.1 ∙ sym (append_assoc rows (row ∷ []) next.0), next.2);
}

-- a name in the middle of distinct ones does not stand before
apart : (xs : List (List ℕ)) (y : List ℕ) (ys : List (List ℕ)) → IsDistinct is_same (xs ++ y ∷ ys) → list_any (is_same y) xs ≡ false
apart [] y ys distinct = refl
apart (x ∷ xs) y ys distinct =
    let all = All-from_recursion (λ z. is_same x z ≡ false) (xs ++ y ∷ ys) (IsDistinct-head is_same x (xs ++ y ∷ ys) distinct) in
    let there = Contains-append_right xs (y ∷ ys) y (0, omega arith, refl) in
    let other : is_same y x ≡ false = nat_list_eq_equiv.symm y x ∙ All-contains (λ z. is_same x z ≡ false) (xs ++ y ∷ ys) y all there in
    rw other (apart xs y ys (IsDistinct-tail is_same x (xs ++ y ∷ ys) distinct))

-- a test of the names, over the rows
list_any-names : (name : List ℕ) (rows : List RosterLine) → list_any (is_same name) (names_of rows) ≡ list_any (λ other. is_same name other.name) rows
list_any-names name [] = refl
list_any-names name (row ∷ rows) = ap (λ (b : Bool). is_same name row.name || b) (list_any-names name rows)

-- no roster has a tenant too many
pub IsRoster-many : (rows : List RosterLine) (row : RosterLine) (more : List RosterLine) → 1000 ≤ length rows → IsRoster (rows ++ row ∷ more) → ⊥
IsRoster-many rows row more many roster = absurd (omega (arith, roster.most, many, length-append rows (row ∷ more)))

-- nor a name twice
pub IsRoster-twice : {name : List ℕ} (rows : List RosterLine) (row : RosterLine) (more : List RosterLine) → list_any (λ other. is_same name other.name) rows ≡ true → name ≡ row.name → IsRoster (rows ++ row ∷ more) → ⊥
IsRoster-twice rows row more twice named roster =
    let names = map-append (λ (r : RosterLine). r.name) rows (row ∷ more) in
    let none = apart (names_of rows) row.name (names_of more) (subst (λ (ns : List (List ℕ)). IsDistinct is_same ns) names roster.distinct) in
    let some = list_any-names row.name rows in
    let again = subst (λ (n : List ℕ). list_any (λ other. is_same n other.name) rows ≡ true) named twice in
    absurd (cc)

-- no roster begins with these rows where their next line is neither a row's that it may have there, nor ends it
pub HasNoRoster-refused : (lines : List Line) (rows : List RosterLine) (left : List Line) (line : List ℕ) (others : List Line) → LeavesLines lines rows left → left ≡ text line ∷ others → (words line ≡ codes "begin" ∷ [] → rows ≡ []) →
    ((row : RosterLine) (more : List RosterLine) → IsRow line row → IsRoster (rows ++ row ∷ more) → ⊥) → HasNoRoster lines
HasNoRoster-refused lines rows left line others so_far first no_end no_row all after roster =
    let parts = so_far.splits all after (HasRoster-rows lines all after roster) in
    by parts.0 parts.1 (subst (λ (there : List Line). HasRows there parts.0 after) first parts.2)
  where
    by : (more : List RosterLine) → all ≡ rows ++ more → HasRows (text line ∷ others) more after → ⊥
    by [] are has = absurd (omega (arith, roster.roster.some, ap length are, ap length (append-nil rows), ap length (no_end has.0)))
    by (row ∷ more) are has = no_row row more has.0 (subst IsRoster are roster.roster)

-- the roster is read
pub HasRoster-read : (lines : List Line) (rows : List RosterLine) (left : List Line) (line : List ℕ) (others : List Line) → LeavesLines lines rows left → left ≡ text line ∷ others → words line ≡ codes "begin" ∷ [] → IsRoster rows → HasRoster lines rows others
HasRoster-read lines rows left line others so_far first begin roster =
    HasRoster-from lines rows others
    (subst (λ (all : List RosterLine). HasRows lines all others) (append-nil rows)
    (so_far.joins [] others (subst (λ (there : List Line). HasRows there [] others) (sym first) (begin, refl)))) roster

-- no names are distinct
pub IsDistinct-none : IsDistinct is_same []
unfolding IsDistinct
IsDistinct-none = tt

-- a name that is new keeps the names distinct
IsDistinct-row : (rows : List RosterLine) (row : RosterLine) → IsDistinct is_same (names_of rows) → list_any (λ other. is_same row.name other.name) rows ≡ false → IsDistinct is_same (names_of (rows ++ row ∷ []))
IsDistinct-row rows row distinct new =
    rw (map-append (λ (r : RosterLine). r.name) rows (row ∷ [])) (IsDistinct-push nat_list_eq_equiv (names_of rows) row.name distinct (list_any-names row.name rows ∙ new))

-- the row of a line was added; or no roster has one there, unless memory lacked
abbrev pub AddsRow : List RosterLine → List ℕ → Result (Unit {0}) ScriptFault → List RosterLine → Type 0
AddsRow old line (Ok _) new = (row : RosterLine) × IsRow line row × (new ≡ old ++ row ∷ []) × (IsDistinct is_same (names_of old) → IsRoster new)
AddsRow old line (Err fault.Roster) new = (row : RosterLine) (more : List RosterLine) → IsRow line row → IsRoster (old ++ row ∷ more) → ⊥
AddsRow old line (Err fault.Memory) new = Unit {0}
AddsRow old line (Err _) new = ⊥

-- the same, clause by clause
module _ (old new : List RosterLine) (line : List ℕ) where
  pub AddsRow-added : (result : Result (Unit {0}) ScriptFault) → AddsRow old line result new →
      OnOk result ((row : RosterLine) × IsRow line row × (new ≡ old ++ row ∷ []) × (IsDistinct is_same (names_of old) → IsRoster new))
  AddsRow-added (Ok _) adds = adds
  AddsRow-added (Err why) adds = tt

  pub AddsRow-none : (result : Result (Unit {0}) ScriptFault) → AddsRow old line result new → result ≡ Err fault.Roster →
      (row : RosterLine) (more : List RosterLine) → IsRow line row → IsRoster (old ++ row ∷ more) → ⊥
  AddsRow-none result adds is = subst (λ (r : Result (Unit {0}) ScriptFault). AddsRow old line r new) is adds

  pub AddsRow-fault : (result : Result (Unit {0}) ScriptFault) → AddsRow old line result new → IfErr result (λ why. (why ≡ fault.Roster) ⊎ (why ≡ fault.Memory))
  AddsRow-fault (Ok _) adds = tt
  AddsRow-fault (Err fault.Roster) adds = inl refl
  AddsRow-fault (Err fault.Memory) adds = inr refl
  AddsRow-fault (Err why) adds = absurd adds

  pub AddsRow-refused : (why : ScriptFault) → (◌≡◌ {A = Result (Unit {0}) ScriptFault} (Err why) (Err fault.Roster) →
      (row : RosterLine) (more : List RosterLine) → IsRow line row → IsRoster (old ++ row ∷ more) → ⊥) → (why ≡ fault.Roster) ⊎ (why ≡ fault.Memory) → AddsRow old line (Err why) new
  AddsRow-refused why none (inl is) = subst (λ (w : ScriptFault). AddsRow old line (Err w) new) (sym is) (none (ap Err is))
  AddsRow-refused why none (inr is) = subst (λ (w : ScriptFault). AddsRow old line (Err w) new) (sym is) tt

-- so a roster may have one row more
AddsRow-row : {pushed : RosterLine} {name : List ℕ} (rows new : List RosterLine) (line : List ℕ) (row : RosterLine) → IsRow line row → new ≡ rows ++ pushed ∷ [] → pushed ≡ row → length rows < 1000 →
    list_any (λ other. is_same name other.name) rows ≡ false → name ≡ row.name → AddsRow rows line (Ok tt) new
AddsRow-row rows new line row is pushed same few other named =
    let are = pushed ∙ ap (λ (r : RosterLine). rows ++ r ∷ []) same in
    let longer = length-append rows (row ∷ []) in
    let alone = subst (λ (n : List ℕ). list_any (λ other. is_same n other.name) rows ≡ false) named other in (
      row,
      is,
      are,
      λ distinct. subst IsRoster (sym are) (record {
        distinct = IsDistinct-row rows row distinct alone;
        some = omega (arith, longer);
        most = omega (arith, longer, few);
      }),
    )

-- and has it there, unless memory lacked for it
pub AddsRow-pushed : {E : Type 0} {pushed : RosterLine} {name : List ℕ} (tried : Result (Unit {0}) E) (rows new : List RosterLine) (line : List ℕ) (row : RosterLine) → IsRow line row →
    new ≡ (if is_ok tried then rows ++ pushed ∷ [] else rows) → pushed ≡ row → length rows < 1000 → list_any (λ other. is_same name other.name) rows ≡ false → name ≡ row.name →
    AddsRow rows line (result_or tried (Err fault.Memory)) new
AddsRow-pushed (Ok _) rows new line row is are same few other named = AddsRow-row rows new line row is are same few other named
AddsRow-pushed (Err _) rows new line row is are same few other named = tt
