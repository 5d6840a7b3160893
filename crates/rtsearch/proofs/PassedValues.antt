-- Where words have no fault, each row of the matches has a value that passed its option's test.
use Rattle.std.proofs.Common.{◌≡◌, ◌∙◌, ◌&&◌, ◌||◌, ℕ, Bool, bytes_eq, chars, cond, drop, encode_utf8, find, fold, true, false, zero, suc, refl, sym, ap, subst, length, List, [], ◌∷◌, ◌++◌, IfSome, Option, Some, None, is_some, option_and_then, option_map, slice_get, unwrap_or}
use Rattle.std.specs.Option.{option_map_or}
use Rattle.std.specs.List.{AllByRecursion}
use Rattle.std.proofs.lemmas.Slice.Eq.{bytes_eq-Decides}
use Rattle.clap.specs.Lexer.{long_of, short_of}
use Rattle.clap.specs.Facts.{parser_of_value, unwrap_or_range}
use Rattle.clap.specs.Values.{Accepts, read_as, refused_kind}
use Rattle.clap.specs.ValueTests.{accepts}
use Rattle.clap.specs.Walk.{Held, Names, Outcome, Row, Rule, Step, Text, Waiting, Walk, action_of, after_flag, after_step, arg_by_id, arg_by_index, arg_by_long, arg_by_short, attached_value, bundle_met, bundle_step, default_rows, done, flag_met, has_row, row_text, idle, is_pending, long_met, long_or_other, more_values, most_values, next, nothing_held, one_of, option, option_met, option_word, plain, plain_word, positional, positional_held, reacted, reading_by, refused, rows_after, settled, settled_rows, short_met, short_or_plain, subcommand, subcommand_met, subcommand_or_other, takes_several, takes_values, to_positional, trailing, used, used_as, used_by_id, value, values_or_missing, waits, walk, walk_from, walked, walked_from, with_default, with_values, without, word_met}
use Rattle.clap.specs.Simple.{Shape}
use Rattle.clap.specs.Kinds.{Kinds, or_else, range_kinds, value_kinds}
use Rattle.clap.specs.Faults.{action_fault, bundle_step_fault, flag_word_fault, flags_fault, level_fault, long_fault, option_fault, other_fault, positional_fault, react_fault, settle_fault, short_fault, step_fault, stray_fault, turn_fault, use_fault, walk_fault, word_fault}
use Rattle.clap.specs.declared.builder.action.ArgAction.{ArgAction}
use Rattle.clap.specs.declared.builder.action.ArgAction.TheVariants.{Set}
use Rattle.clap.specs.declared.builder.value_parser.Reading.{Reading}
use Rattle.clap.specs.declared.error.kind.ErrorKind.{ErrorKind}
use Rattle.clap.specs.declared.error.kind.ErrorKind.TheVariants.{TooManyValues}
use Rattle.clap.specs.declared.parser.matches.ValueSource.{ValueSource}
use Rattle.clap.specs.declared.parser.matches.ValueSource.TheVariants.{CommandLine, DefaultValue}
use Rattle.clap.proofs.ValueTestLemmas.{accepts-Accepts}

-- two steps without a fault
pub both_pass : (a b : Kinds) → or_else a b ≡ [] → (a ≡ []) × (b ≡ [])
both_pass [] b e = (refl, e)
both_pass (k ∷ ks) b e = cc

-- a first value passes the option's test
abbrev pub FirstPasses : Rule → List Text → Type 0
FirstPasses a [] = ⊥
FirstPasses a (v ∷ vs) = Accepts a.ignore_case (parser_of_value a.parser) v

first_stays : (a : Rule) (vs ws : List Text) → FirstPasses a vs → FirstPasses a (vs ++ ws)
first_stays a [] ws h = absurd h
first_stays a (v ∷ vs) ws h = h

-- the first value of a row passed the test of the option of its name, and is read as that says
abbrev pub RowPasses : List Rule → Row → Type 0
RowPasses c r = (a : Rule) → arg_by_id c r.id ≡ Some a → (r.reading ≡ reading_by a) × FirstPasses a r.values

abbrev pub RowsPass : List Rule → List Row → Type 0
RowsPass c = AllByRecursion (RowPasses c)

-- A use of the option without a fault sets a value that passes; its usual value passes; and it is the one of its name.
pub record IsTested (c : List Rule) (a : Rule) : Type 0 where
  pub named : arg_by_id c a.id ≡ Some a
  pub used : (again : Bool) (values : List Text) (rows : List Row) → use_fault again a values rows ≡ [] → (action_of a ≡ Set) × FirstPasses a (values_or_missing a values)
  pub usual : is_some (slice_get a.defaults 0) ≡ true → FirstPasses a a.defaults

-- what is found is one of the list
pub find_keeps : (P : Rule → Type 0) (test : Rule → Bool) (xs : List Rule) → AllByRecursion P xs → IfSome (find test xs) P
find_keeps P test [] h = tt
find_keeps P test (x ∷ xs) h = go (test x) (find_keeps P test xs h.1)
  where
    go : (b : Bool) → IfSome (find test xs) P → IfSome (cond b (Some x) (find test xs)) P
    go true later = h.0
    go false later = later

-- a value that passed
value_passes : (a : Rule) (v : Text) → value_kinds a.ignore_case (parser_of_value a.parser) v ≡ [] → Accepts a.ignore_case (parser_of_value a.parser) v
value_passes a v e = go (accepts a.ignore_case (parser_of_value a.parser) v) refl e
  where
    go : (b : Bool) → accepts a.ignore_case (parser_of_value a.parser) v ≡ b → cond b [] (refused_kind (parser_of_value a.parser) ∷ []) ≡ []
        → Accepts a.ignore_case (parser_of_value a.parser) v
    go true is e = accepts-Accepts _ _ _ is
    go false is e = cc

-- an option with one value
pub one_value : (a : Rule) → action_of a ≡ Set → (unwrap_or_range a.range).start_inclusive ≡ 1 → (again : Bool) (values : List Text) (rows : List Row)
    → use_fault again a values rows ≡ [] → (action_of a ≡ Set) × FirstPasses a (values_or_missing a values)
one_value a set one again [] rows e =
    let least : range_kinds (unwrap_or_range a.range).start_inclusive (most_values a) 0 ≡ [] = (both_pass _ _ e).0 in
    let no : range_kinds 1 (most_values a) 0 ≡ [] = rw one at least in
    cc
one_value a set one again (v ∷ vs) rows e =
    let acts : action_fault (action_of a) again a (v ∷ vs) rows ≡ [] = (both_pass _ _ e).1 in
    let meets : action_fault Set again a (v ∷ vs) rows ≡ [] = rw set at acts in
    (set, value_passes a v (both_pass _ _ (both_pass _ _ meets).1).0)

-- a flag that asks for a text
pub never_used : (a : Rule) (k : ErrorKind) → ((again : Bool) (values : List Text) (rows : List Row) → action_fault (action_of a) again a values rows ≡ k ∷ []) → (again : Bool) (values : List Text) (rows : List Row)
    → use_fault again a values rows ≡ [] → (action_of a ≡ Set) × FirstPasses a (values_or_missing a values)
never_used a k asks again values rows e =
    let passes = both_pass (range_kinds (unwrap_or_range a.range).start_inclusive (most_values a) (length values))
    (action_fault (action_of a) again a (values_or_missing a values) rows) e in
    let no : ◌≡◌ {A = Kinds} (k ∷ []) [] = sym (asks again (values_or_missing a values) rows) ∙ passes.1 in
    cc

module _ (c : List Rule) where
  -- rows to which values of an option are added
  with_values_pass : (a : Rule) (s : ValueSource) (values : List Text) (rows : List Row) → arg_by_id c a.id ≡ Some a → FirstPasses a values → RowsPass c rows
      → RowsPass c (with_values a.id (reading_by a) s values rows)
  with_values_pass a s values [] named passes h = (
    λ b is.
        let same : a ≡ b = ap (λ (o : Option Rule). unwrap_or o a) (sym named ∙ is) in
        (ap reading_by same, subst (λ (r : Rule). FirstPasses r values) same passes),
    tt,
  )
  with_values_pass a s values (r ∷ rs) named passes h = go (bytes_eq r.id a.id) (with_values_pass a s values rs named passes h.1)
    where
      go : (b : Bool) → RowsPass c (with_values a.id (reading_by a) s values rs) → RowsPass c (cond b (more_values s values r ++ rs) (r ∷ with_values a.id (reading_by a) s values rs))
      go true later = (λ b is. ((h.0 b is).0, first_stays b r.values values (h.0 b is).1), h.1)
      go false later = (h.0, later)

  without_passes : (id : Text) (rows : List Row) → RowsPass c rows → RowsPass c (without id rows)
  without_passes id [] h = tt
  without_passes id (r ∷ rs) h = go (bytes_eq r.id id) (without_passes id rs h.1)
    where
      go : (b : Bool) → RowsPass c (without id rs) → RowsPass c (cond b rs (r ∷ without id rs))
      go true later = h.1
      go false later = (h.0, later)

  used_passes : (again : Bool) (a : Rule) (values : List Text) (rows : List Row) → IsTested c a → use_fault again a values rows ≡ [] → RowsPass c rows → RowsPass c (used a values rows)
  used_passes again a values rows tested e h =
      let meets = tested.used again values rows e in
      subst (λ (x : ArgAction). RowsPass c (used_as x a.id (reading_by a) (values_or_missing a values) rows)) (sym meets.0)
      (with_values_pass a CommandLine (values_or_missing a values) (without a.id rows) tested.named meets.1 (without_passes a.id rows h))

  -- the usual values
  default_passes : (rows : List Row) (a : Rule) → IsTested c a → RowsPass c rows → RowsPass c (with_default rows a)
  default_passes rows a tested h = go (has_row a.id rows)
    where
      given : (defaults : List Text) → (is_some (slice_get defaults 0) ≡ true → FirstPasses a defaults) → RowsPass c (default_rows a.id (reading_by a) defaults rows)
      given [] usual = h
      given (v ∷ vs) usual = with_values_pass a DefaultValue (v ∷ vs) rows tested.named (usual refl) h

      go : (b : Bool) → RowsPass c (cond b rows (default_rows a.id (reading_by a) a.defaults rows))
      go true = h
      go false = given a.defaults tested.usual

  defaults_pass : (xs : List Rule) (rows : List Row) → AllByRecursion (IsTested c) xs → RowsPass c rows → RowsPass c (fold with_default rows xs)
  defaults_pass [] rows tested h = h
  defaults_pass (a ∷ xs) rows tested h = defaults_pass xs (with_default rows a) tested.1 (default_passes rows a tested.0 h)

  -- ---- the walk over the words
  module _ (again : Bool) (tested : AllByRecursion (IsTested c) c) where
    used_by_id_passes : (o : Option Rule) (values : List Text) (rows : List Row) → IfSome o (IsTested c) → option_map_or (λ a. use_fault again a values rows) o [] ≡ []
        → RowsPass c rows → RowsPass c (used_by_id o values rows)
    used_by_id_passes None values rows own e h = h
    used_by_id_passes (Some a) values rows own e h = used_passes again a values rows own e h

    settled_pass : (p : Option (Text × List Text)) (rows : List Row)
        → option_map_or (λ q. option_map_or (λ a. use_fault again a q.1 rows) (arg_by_id c q.0) []) p [] ≡ [] → RowsPass c rows → RowsPass c (settled_rows c p rows)
    settled_pass None rows e h = h
    settled_pass (Some q) rows e h = used_by_id_passes (arg_by_id c q.0) q.1 rows (find_keeps (IsTested c) _ c tested) e h

    reacted_passes : (a : Rule) (values : List Text) (h : Held) → IsTested c a → react_fault c again a values h ≡ [] → RowsPass c h.rows → RowsPass c (reacted c a values h).rows
    reacted_passes a values h own e r =
        let each = both_pass _ _ e in
        used_passes again a values (settled c h).rows own each.1 (settled_pass h.pending h.rows each.0 r)

    option_passes : (a : Rule) (v : Option Text) (h : Held) → IsTested c a → option_fault c again a v h ≡ [] → RowsPass c h.rows → RowsPass c (option_met c a v h).0.rows
    option_passes a (Some v) h own e r = reacted_passes a (v ∷ []) h own e r
    option_passes a None h own e r = settled_pass h.pending h.rows e r

    flag_passes : (a : Rule) (v : Option Text) (h : Held) → IsTested c a → cond (is_some v) (TooManyValues ∷ []) (react_fault c again a [] h) ≡ [] → RowsPass c h.rows
        → RowsPass c (flag_met c a v h).0.rows
    flag_passes a (Some v) h own e r = r
    flag_passes a None h own e r = reacted_passes a [] h own e r

    long_passes : (o : Option Rule) (v : Option Text) (h : Held) → IfSome o (IsTested c) → long_fault c again o v h ≡ [] → RowsPass c h.rows → RowsPass c (long_met c o v h).0.rows
    long_passes None v h own e r = r
    long_passes (Some a) v h own e r = go (takes_values a) e
      where
        go : (b : Bool) → cond b (option_fault c again a v h) (cond (is_some v) (TooManyValues ∷ []) (react_fault c again a [] h)) ≡ []
            → RowsPass c (cond b (option_met c a v h) (flag_met c a v h)).0.rows
        go true e = option_passes a v h own e r
        go false e = flag_passes a v h own e r

    short_passes : (o : Option Rule) (rest : Text) (h : Held) (then : Held → Held × Outcome) (fault : Held → Kinds) → IfSome o (IsTested c)
        → ((x : Held) → fault x ≡ [] → RowsPass c x.rows → RowsPass c (then x).0.rows)
        → short_fault c again o rest h fault ≡ [] → RowsPass c h.rows → RowsPass c (short_met c o rest h then).0.rows
    short_passes None rest h then fault own passes e r = r
    short_passes (Some a) rest h then fault own passes e r = go (takes_values a) e
      where
        go : (b : Bool) → cond b (option_fault c again a (attached_value rest) h) (or_else (react_fault c again a [] h) (fault (reacted c a [] h))) ≡ []
            → RowsPass c (cond b (option_met c a (attached_value rest) h) (then (reacted c a [] h))).0.rows
        go true e = option_passes a (attached_value rest) h own e r
        go false e =
            let each = both_pass _ _ e in
            passes (reacted c a [] h) each.1 (reacted_passes a [] h own each.0 r)

    bundle_passes : (k : ℕ) (flags : Text) (skip : ℕ) (so_far : Outcome) (h : Held) → flags_fault c again k flags skip h ≡ [] → RowsPass c h.rows
        → RowsPass c (bundle_met c k flags skip so_far h).0.rows
    unfolding bundle_met flags_fault
    bundle_passes zero flags skip so_far h e r = r
    bundle_passes (suc k) flags skip so_far h e r = go (slice_get (chars flags) 0) skip (λ rest n met y none rows. bundle_passes k rest n met y none rows) e
      where
        go : (o : Option ℕ) (n : ℕ)
            → ((rest : Text) (n : ℕ) (met : Outcome) (y : Held) → flags_fault c again k rest n y ≡ [] → RowsPass c y.rows → RowsPass c (bundle_met c k rest n met y).0.rows)
            → bundle_step_fault c again o flags n h (flags_fault c again k) ≡ [] → RowsPass c (bundle_step c o flags n so_far h (bundle_met c k)).0.rows
        go None n later e = r
        go (Some x) zero later e =
            short_passes (arg_by_short c x) (drop (length (encode_utf8 x)) flags) h _ _ (find_keeps (IsTested c) _ c tested)
            (λ y none rows. later (drop (length (encode_utf8 x)) flags) 0 done y none rows) e r
        go (Some x) (suc n) later e = later (drop (length (encode_utf8 x)) flags) n so_far h e r

    plain_keeps : (waiting : Waiting) (word : Text) (h : Held) → RowsPass c h.rows → RowsPass c (plain_word c waiting word h).0.rows
    plain_keeps idle word h r = r
    plain_keeps positional word h r = r
    plain_keeps (option id) word h r = go (arg_by_id c id)
      where
        go : (o : Option Rule) → RowsPass c (option_word o id word h).0.rows
        go None = r
        go (Some a) = r

    after_keeps : (waiting : Waiting) (word : Text) (h : Held) (met : Outcome) → RowsPass c h.rows → RowsPass c (after_flag c waiting word h met).0.rows
    after_keeps waiting word h done r = r
    after_keeps waiting word h (waits id) r = r
    after_keeps waiting word h plain r = plain_keeps waiting word h r
    after_keeps waiting word h refused r = plain_keeps waiting word h r

    flag_word_passes : (waiting : Waiting) (word : Text) (p : Option (Text × Option Text)) (h : Held) → flag_word_fault c again p word h ≡ [] → RowsPass c h.rows
        → RowsPass c (long_or_other c waiting word p h).0.rows
    flag_word_passes waiting word (Some p) h e r = after_keeps waiting word _ _ (long_passes (arg_by_long c p.0) p.1 h (find_keeps (IsTested c) _ c tested) e r)
    flag_word_passes waiting word None h e r = go (short_of word) e
      where
        go : (o : Option Text) → option_map_or (λ flags. flags_fault c again (length flags) flags h.skip (record h { skip = 0 })) o [] ≡ []
            → RowsPass c (short_or_plain c waiting word o h).0.rows
        go None e = plain_keeps waiting word h r
        go (Some flags) e = after_keeps waiting word _ _ (bundle_passes (length flags) flags h.skip plain (record h { skip = 0 }) e r)

module _ (s : Shape) (names : Names) (tested : AllByRecursion (IsTested s.rules) s.rules) where
  other_passes : (o : Option Text) (waiting : Waiting) (position : ℕ) (word : Text) (h : Held) → other_fault s o word h ≡ [] → RowsPass s.rules h.rows
      → RowsPass s.rules (subcommand_or_other s.rules o waiting position word h).0.rows
  other_passes (Some name) waiting position word h e r = r
  other_passes None waiting position word h e r = go (bytes_eq word (45 ∷ 45 ∷ [])) e
    where
      go : (b : Bool) → cond b [] (flag_word_fault s.rules s.args_override_self (long_of word) word h) ≡ []
          → RowsPass s.rules (cond b (h, trailing position) (long_or_other s.rules waiting word (long_of word) h)).0.rows
      go true e = r
      go false e = flag_word_passes s.rules s.args_override_self tested waiting word (long_of word) h e r

  word_passes : (is_trailing : Bool) (waiting : Waiting) (position : ℕ) (word : Text) (h : Held) → word_fault s names is_trailing waiting word h ≡ [] → RowsPass s.rules h.rows
      → RowsPass s.rules (word_met s.rules names is_trailing waiting position word h).0.rows
  word_passes true waiting position word h e r = r
  word_passes false waiting position word h e r = other_passes (subcommand_met names waiting word) waiting position word h e r

  positional_passes : (a : Rule) (word : Text) (h : Held) → positional_fault s.rules s.args_override_self a h ≡ [] → RowsPass s.rules h.rows
      → RowsPass s.rules (positional_held s.rules a word h).rows
  positional_passes a word h e r = go (is_pending a h.pending && takes_several a) e
    where
      go : (b : Bool) → cond b [] (settle_fault s.rules s.args_override_self h) ≡ [] → RowsPass s.rules (cond b h (settled s.rules h)).rows
      go true e = r
      go false e = settled_pass s.rules s.args_override_self tested h.pending h.rows e r

  step_passes : (word : Text) (w : Walk) (h : Held) (step : Step) → step_fault s w.position h step ≡ [] → RowsPass s.rules h.rows
      → RowsPass s.rules (after_step s.rules word w h step).held.rows
  step_passes word w h (next waiting) e r = r
  step_passes word w h (trailing position) e r = r
  step_passes word w h (subcommand name) e r = r
  step_passes word w h value e r = go (arg_by_index s.rules w.position) e
    where
      go : (o : Option Rule) → option_map_or (λ a. positional_fault s.rules s.args_override_self a h) o (stray_fault s) ≡ [] → RowsPass s.rules (to_positional s.rules o word w h).held.rows
      go None e = r
      go (Some a) e = positional_passes a word h e r

  walked_passes : (w : Walk) (word : Text) → turn_fault s names w word ≡ [] → RowsPass s.rules w.held.rows → RowsPass s.rules (walked s.rules names w word).held.rows
  unfolding walked
  walked_passes w word e r = go w.stopped e
    where
      go : (o : Option (Text × List Text))
          → cond (is_some o) [] (or_else (word_fault s names w.is_trailing w.waiting word w.held)
          (step_fault s w.position (word_met s.rules names w.is_trailing w.waiting w.position word w.held).0 (word_met s.rules names w.is_trailing w.waiting w.position word w.held).1)) ≡ []
          → RowsPass s.rules (walked_from s.rules names o w word).held.rows
      go (Some p) e = r
      go None e =
          let each = both_pass _ _ e in
          step_passes word w _ _ each.1 (word_passes w.is_trailing w.waiting w.position word w.held each.0 r)

  walk_passes : (w : Walk) (words : List Text) → walk_fault s names w words ≡ [] → RowsPass s.rules w.held.rows → RowsPass s.rules (fold (walked s.rules names) w words).held.rows
  unfolding walk_fault
  walk_passes w [] e r = r
  walk_passes w (word ∷ rest) e r =
      let each = both_pass _ _ e in
      walk_passes (walked s.rules names w word) rest each.1 (walked_passes w word each.0 r)

  -- all the rows of a command line without a fault
  pub rows_pass : (words : List Text) → level_fault s names nothing_held words false [] ≡ [] → RowsPass s.rules (rows_after s.rules names words)
  rows_pass words e =
      let each = both_pass _ _ e in
      let end = (walk s.rules names nothing_held words).held in
      defaults_pass s.rules s.rules (settled s.rules end).rows tested
      (settled_pass s.rules s.args_override_self tested end.pending end.rows (both_pass _ _ each.1).0 (walk_passes (walk_from nothing_held) words each.0 tt))

-- ---- what the rows say of an option

-- the value of an option that has a row passed its test
pub value_in : (c : List Rule) (a : Rule) (rows : List Row) → arg_by_id c a.id ≡ Some a → RowsPass c rows → has_row a.id rows ≡ true
    → (v : Text) × (one_of a.id rows ≡ Some (read_as (reading_by a) v)) × Accepts a.ignore_case (parser_of_value a.parser) v
value_in c a [] named h e = cc
value_in c a (r ∷ rs) named h e = go (bytes_eq r.id a.id) refl (λ there. value_in c a rs named h.1 there) e
  where
    first : (values : List Text) → FirstPasses a values → r.reading ≡ reading_by a
        → (v : Text) × (option_map (read_as r.reading) (slice_get values 0) ≡ Some (read_as (reading_by a) v)) × Accepts a.ignore_case (parser_of_value a.parser) v
    first [] passes how = absurd passes
    first (v ∷ vs) passes how = (v, ap (λ (x : Reading). Some (read_as x v)) how, passes)

    go : (b : Bool) → bytes_eq r.id a.id ≡ b
        → (has_row a.id rs ≡ true → (v : Text) × (one_of a.id rs ≡ Some (read_as (reading_by a) v)) × Accepts a.ignore_case (parser_of_value a.parser) v)
        → (b || has_row a.id rs) ≡ true
        → (v : Text) × (option_and_then row_text (cond b (Some r) (find (λ x. bytes_eq x.id a.id) rs)) ≡ Some (read_as (reading_by a) v)) × Accepts a.ignore_case (parser_of_value a.parser) v
    go true is later e =
        let passes = h.0 a (ap (arg_by_id c) ((bytes_eq-Decides r.id a.id).0 is) ∙ named) in
        first r.values passes.1 passes.0
    go false is later e = later e

-- an option without a row has no value
pub no_value : (id : Text) (rows : List Row) → has_row id rows ≡ false → one_of id rows ≡ None
no_value id [] e = refl
no_value id (r ∷ rs) e = go (bytes_eq r.id id) (λ none. no_value id rs none) e
  where
    go : (b : Bool) → (has_row id rs ≡ false → one_of id rs ≡ None) → (b || has_row id rs) ≡ false → option_and_then row_text (cond b (Some r) (find (λ x. bytes_eq x.id id) rs)) ≡ None
    go true later e = cc
    go false later e = later e

-- a row stays, and one that is set is there
row_stays : (id other : Text) (how : Reading) (s : ValueSource) (values : List Text) (rows : List Row) → has_row id rows ≡ true → has_row id (with_values other how s values rows) ≡ true
row_stays id other how s values [] e = cc
row_stays id other how s values (r ∷ rs) e = go (bytes_eq r.id other) (rest (bytes_eq r.id id) (λ there. row_stays id other how s values rs there) e)
  where
    rest : (b : Bool) → (has_row id rs ≡ true → has_row id (with_values other how s values rs) ≡ true) → (b || has_row id rs) ≡ true
        → (b || has_row id (with_values other how s values rs)) ≡ true
    rest true later e = refl
    rest false later e = later e

    go : (b : Bool) → has_row id (r ∷ with_values other how s values rs) ≡ true → has_row id (cond b (more_values s values r ++ rs) (r ∷ with_values other how s values rs)) ≡ true
    go true later = e
    go false later = later

row_is_set : (id : Text) (how : Reading) (s : ValueSource) (values : List Text) (rows : List Row) → has_row id (with_values id how s values rows) ≡ true
row_is_set id how s values [] = ap (λ (b : Bool). b || false) ((bytes_eq-Decides id id).1 refl)
row_is_set id how s values (r ∷ rs) = go (bytes_eq r.id id) refl (row_is_set id how s values rs)
  where
    go : (b : Bool) → bytes_eq r.id id ≡ b → has_row id (with_values id how s values rs) ≡ true → has_row id (cond b (more_values s values r ++ rs) (r ∷ with_values id how s values rs)) ≡ true
    go true is later = ap (λ (b : Bool). b || has_row id rs) is
    go false is later = ap (λ (b : Bool). b || has_row id (with_values id how s values rs)) is ∙ later

default_stays : (id : Text) (rows : List Row) (a : Rule) → has_row id rows ≡ true → has_row id (with_default rows a) ≡ true
default_stays id rows a e = go (has_row a.id rows)
  where
    given : (defaults : List Text) → has_row id (default_rows a.id (reading_by a) defaults rows) ≡ true
    given [] = e
    given (v ∷ vs) = row_stays id a.id (reading_by a) DefaultValue (v ∷ vs) rows e

    go : (b : Bool) → has_row id (cond b rows (default_rows a.id (reading_by a) a.defaults rows)) ≡ true
    go true = e
    go false = given a.defaults

defaults_stay : (id : Text) (xs : List Rule) (rows : List Row) → has_row id rows ≡ true → has_row id (fold with_default rows xs) ≡ true
defaults_stay id [] rows e = e
defaults_stay id (a ∷ xs) rows e = defaults_stay id xs (with_default rows a) (default_stays id rows a e)

default_is_set : (rows : List Row) (a : Rule) → is_some (slice_get a.defaults 0) ≡ true → has_row a.id (with_default rows a) ≡ true
default_is_set rows a usual = go (has_row a.id rows) refl
  where
    given : (defaults : List Text) → is_some (slice_get defaults 0) ≡ true → has_row a.id (default_rows a.id (reading_by a) defaults rows) ≡ true
    given [] usual = cc
    given (v ∷ vs) usual = row_is_set a.id (reading_by a) DefaultValue (v ∷ vs) rows

    go : (b : Bool) → has_row a.id rows ≡ b → has_row a.id (cond b rows (default_rows a.id (reading_by a) a.defaults rows)) ≡ true
    go true is = is
    go false is = given a.defaults usual

-- an option with a usual value has a row
pub usual_is_there : (front : List Rule) (a : Rule) (rest : List Rule) (rows : List Row) → is_some (slice_get a.defaults 0) ≡ true
    → has_row a.id (fold with_default rows (front ++ a ∷ rest)) ≡ true
usual_is_there [] a rest rows usual = defaults_stay a.id rest (with_default rows a) (default_is_set rows a usual)
usual_is_there (x ∷ front) a rest rows usual = usual_is_there front a rest (with_default rows x) usual
