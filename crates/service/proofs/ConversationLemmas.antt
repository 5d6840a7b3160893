-- Lemmas on what a conversation has been answered.
use Rattle.std.proofs.Common.{◌≡◌, ℕ, true, false, List, [], ◌∷◌, ◌++◌, refl, sym, ap, ◌∙◌, subst, append_assoc, Option}
use Rattle.std.specs.Prelude.{not, filter}
use Rattle.std.specs.List.{concat}
use Rattle.std.specs.Io.KnownBytes.{Appends}
use Rattle.std.proofs.lemmas.List.{append-nil}
use Rattle.std.proofs.lemmas.List.Folds.{concat-append}
use Rattle.service.specs.declared.conversations.Flow.{Flow}
use Rattle.service.specs.declared.conversations.Flow.TheVariants.{GoesOn, Ends}
use Rattle.service.specs.declared.conversations.SessionEnd.{SessionEnd}
use Rattle.service.specs.declared.conversations.SessionEnd.TheVariants.{Quit, EndOfInput, Read, Write}
use Rattle.service.specs.declared.lines.NextLine.{NextLine}
use Rattle.service.specs.declared.lines.NextLine.TheVariants.{End}
use Rattle.service.specs.Line.{Line, is_blank, commands_of}
use Rattle.service.specs.LineReader.{Source, known, unknown, failed, Shows, Gives, IfKnown}
use Rattle.service.specs.Written.{SendsUpTo, WentOut, Talks, Conversed}
use Rattle.service.proofs.LinesLemmas.{Gives-first, IfKnown-map}
use Rattle.service.proofs.WrittenLemmas.{WritesFront, SendsUpTo-nothing, SendsUpTo-more, SendsUpTo-said, SendsUpTo-all, WritesFront-behind}

-- The first of these lines were answered, of their replies a front went out and the rest waits, and the other lines are left.
pub record SoFar {S : Type 0} (Answers : S → Line → List ℕ → Flow → S → Type 0) (before : S)
    (lines : List Line) (left : Source) (host : S) (c0 c1 : Option (List ℕ)) (waits : List ℕ) : Type 0 where
  pub rest : List ℕ
  pub source : left ≡ known rest
  pub done : List Line
  pub split : lines ≡ done ++ commands_of rest
  pub replies : List (List ℕ)
  pub talks : Talks Answers (before, GoesOn) done replies (host, GoesOn)
  pub out : SendsUpTo c0 c1 (concat replies) waits

-- The first of these lines was taken and answered, and the other lines are left.
pub record Hears {S : Type 0} (Answers : S → Line → List ℕ → Flow → S → Type 0) (host : S)
    (lines : List Line) (left : Source) (flow : Flow) (after : S) (reply : List ℕ) : Type 0 where
  pub line : Line
  pub rest : List ℕ
  pub source : left ≡ known rest
  pub first : lines ≡ line ∷ commands_of rest
  pub answer : Answers host line reply flow after

-- those of the lines that are not blank
abbrev not_blank : List Line → List Line
not_blank lines = filter (λ line. not (is_blank line)) lines

module _ {S : Type 0} (Answers : S → Line → List ℕ → Flow → S → Type 0) where
  -- a line that is not blank
  pub Hears-line : (mid new : Source) (host after : S) (flow : Flow) (reply : List ℕ) (answer : NextLine) (line : Line) → Gives mid answer new → Shows answer line →
      is_blank line ≡ false → Answers host line reply flow after → IfKnown mid (λ lines. Hears Answers host lines new flow after reply)
  Hears-line unknown new host after flow reply answer line gives shows filled is = tt
  Hears-line failed new host after flow reply answer line gives shows filled is = tt
  Hears-line (known bytes) new host after flow reply answer line gives shows filled is =
      let first = Gives-first bytes new answer line gives shows in
      record { line = line; rest = first.0; source = first.1; first = ap not_blank first.2 ∙ rw filled refl; answer = is }

  -- one reply more
  Talks-push : (before mid after : S × Flow) (lines : List Line) (replies : List (List ℕ)) (line : Line) (reply : List ℕ) → Talks Answers before lines replies mid → mid.1 ≡ GoesOn →
      Answers mid.0 line reply after.1 after.0 → Talks Answers before (lines ++ line ∷ []) (replies ++ reply ∷ []) after
  Talks-push before mid after [] [] line reply talks on answer =
      let last = subst (λ (s : S × Flow). (s.1 ≡ GoesOn) × Answers s.0 line reply after.1 after.0) talks (on, answer) in (after, last.0, last.1, refl)
  Talks-push before mid after (first ∷ lines) (told ∷ replies) line reply (next, goes, is, talks) on answer =
      (next, goes, is, Talks-push next mid after lines replies line reply talks on answer)
  Talks-push before mid after [] (told ∷ replies) line reply talks on answer = absurd talks
  Talks-push before mid after (first ∷ lines) [] line reply talks on answer = absurd talks

  -- before the first line
  pub SoFar-start : (source : Source) (host : S) (contents : Option (List ℕ)) → IfKnown source (λ lines. SoFar Answers host lines source host contents contents [])
  SoFar-start unknown host contents = tt
  SoFar-start failed host contents = tt
  SoFar-start (known bytes) host contents = record {
    rest = bytes;
    source = refl;
    done = [];
    split = refl;
    replies = [];
    talks = refl;
    out = SendsUpTo-nothing contents;
  }

  module _ (old mid : Source) (before host : S) (c0 c1 : Option (List ℕ)) (waits : List ℕ) (so_far : IfKnown old (λ lines. SoFar Answers before lines mid host c0 c1 waits)) where
    -- more of the replies go out
    pub SoFar-sends : (c2 : Option (List ℕ)) (left : List ℕ) → SendsUpTo c1 c2 waits left → IfKnown old (λ lines. SoFar Answers before lines mid host c0 c2 left)
    SoFar-sends c2 left sends =
        IfKnown-map old so_far
        (λ lines so. record {
          rest = so.rest;
          source = so.source;
          done = so.done;
          split = so.split;
          replies = so.replies;
          talks = so.talks;
          out = SendsUpTo-more c0 c1 c2 (concat so.replies) waits left so.out sends;
        })

    -- a blank line changes nothing
    pub SoFar-blank : (new : Source) (answer : NextLine) (line : Line) → Gives mid answer new → Shows answer line → is_blank line ≡ true → IfKnown old (λ lines. SoFar Answers before lines new host c0 c1 waits)
    SoFar-blank new answer line gives shows blank =
        IfKnown-map old so_far
        (λ lines so.
        let first = Gives-first so.rest new answer line (subst (λ (s : Source). Gives s answer new) so.source gives) shows in
        record {
          rest = first.0;
          source = first.1;
          done = so.done;
          split = so.split ∙ ap (λ (ls : List Line). so.done ++ ls) (ap not_blank first.2 ∙ rw blank refl);
          replies = so.replies;
          talks = so.talks;
          out = so.out;
        })

    -- the host goes on, and how it ended and what went out is this
    ends : (lines : List Line) (so : SoFar Answers before lines mid host c0 c1 waits) (end : SessionEnd) (went_out : List ℕ → Type 0) →
        WentOut end GoesOn (commands_of so.rest) so.replies went_out → Conversed Answers before host lines end went_out
    ends lines so end went_out out =
        record { done = so.done; rest = commands_of so.rest; split = so.split; replies = so.replies; flow = GoesOn; talks = so.talks; out = out }

    -- no line is left, and all that waited went out
    pub Conversed-end : (new : Source) (c2 : Option (List ℕ)) → Gives mid End new → Appends c1 c2 waits → IfKnown old (λ lines. Conversed Answers before host lines EndOfInput (Appends c0 c2))
    Conversed-end new c2 gives sent =
        IfKnown-map old so_far
        (λ lines so.
        let none = subst (λ (s : Source). Gives s End new) so.source gives in
        ends lines so EndOfInput (Appends c0 c2) (refl, ap commands_of none.0, SendsUpTo-all c0 c1 c2 (concat so.replies) waits so.out sent))

    -- no line could be read, and all that waited went out
    pub Conversed-read : (c2 : Option (List ℕ)) → Appends c1 c2 waits → IfKnown old (λ lines. Conversed Answers before host lines Read (Appends c0 c2))
    Conversed-read c2 sent =
        IfKnown-map old so_far (λ lines so. ends lines so Read (Appends c0 c2) (refl, SendsUpTo-all c0 c1 c2 (concat so.replies) waits so.out sent))

    -- a front of what waited went out
    pub Conversed-cut : (c2 : Option (List ℕ)) → WritesFront c1 c2 waits → IfKnown old (λ lines. Conversed Answers before host lines Write (Appends c0 c2))
    Conversed-cut c2 written =
        IfKnown-map old so_far
        (λ lines so.
        ends lines so Write (Appends c0 c2)
        (subst (λ (t : List ℕ). WritesFront c0 c2 t) (append-nil (concat so.replies))
        (WritesFront-behind c0 c1 c2 (concat so.replies) waits [] so.out (subst (λ (t : List ℕ). WritesFront c1 c2 t) (sym (append-nil waits)) written))))

    -- a line was answered
    module _ (new : Source) (c2 : Option (List ℕ)) (flow : Flow) (after : S) (reply : List ℕ) (heard : IfKnown mid (λ lines. Hears Answers host lines new flow after reply)) where
      here : (lines : List Line) (so : SoFar Answers before lines mid host c0 c1 waits) → Hears Answers host (commands_of so.rest) new flow after reply
      here lines so = subst (λ (s : Source). IfKnown s (λ left. Hears Answers host left new flow after reply)) so.source heard

      parted : (lines : List Line) (so : SoFar Answers before lines mid host c0 c1 waits) (h : Hears Answers host (commands_of so.rest) new flow after reply) →
          lines ≡ (so.done ++ h.line ∷ []) ++ commands_of h.rest
      parted lines so h = so.split ∙ ap (λ (ls : List Line). so.done ++ ls) h.first ∙ sym (append_assoc so.done (h.line ∷ []) (commands_of h.rest))

      told : (lines : List Line) (so : SoFar Answers before lines mid host c0 c1 waits) (h : Hears Answers host (commands_of so.rest) new flow after reply) →
          Talks Answers (before, GoesOn) (so.done ++ h.line ∷ []) (so.replies ++ reply ∷ []) (after, flow)
      told lines so h = Talks-push (before, GoesOn) (host, GoesOn) (after, flow) so.done so.replies h.line reply so.talks refl h.answer

      all_said : (replies : List (List ℕ)) → concat (replies ++ reply ∷ []) ≡ concat replies ++ reply
      all_said replies = concat-append replies (reply ∷ []) ∙ ap (λ (t : List ℕ). concat replies ++ t) (append-nil reply)

      -- it was the last that was answered, and this went out
      last : (lines : List Line) (so : SoFar Answers before lines mid host c0 c1 waits) (end : SessionEnd) (went_out : List ℕ → Type 0) →
          WentOut end flow (commands_of (here lines so).rest) (so.replies ++ reply ∷ []) went_out → Conversed Answers before after lines end went_out
      last lines so end went_out out =
          let h = here lines so in
          record {
            done = so.done ++ h.line ∷ [];
            rest = commands_of h.rest;
            split = parted lines so h;
            replies = so.replies ++ reply ∷ [];
            flow = flow;
            talks = told lines so h;
            out = out;
          }

      -- a front of its reply, or of those before it, went out
      pub Conversed-part : WritesFront c1 c2 (waits ++ reply) → IfKnown old (λ lines. Conversed Answers before after lines Write (Appends c0 c2))
      Conversed-part written =
          IfKnown-map old so_far
          (λ lines so.
          last lines so Write (Appends c0 c2)
          (subst (λ (t : List ℕ). WritesFront c0 c2 t) (sym (all_said so.replies)) (WritesFront-behind c0 c1 c2 (concat so.replies) waits reply so.out written)))

      module _ (left : List ℕ) (sends : SendsUpTo c1 c2 (waits ++ reply) left) where
        goes : (lines : List Line) (so : SoFar Answers before lines mid host c0 c1 waits) → SendsUpTo c0 c2 (concat (so.replies ++ reply ∷ [])) left
        goes lines so =
            subst (λ (t : List ℕ). SendsUpTo c0 c2 t left) (sym (all_said so.replies)) (SendsUpTo-said c0 c1 c2 (concat so.replies) waits reply left so.out sends)

        -- it ended the conversation, and all that waited went out
        pub Conversed-quit : (c3 : Option (List ℕ)) → flow ≡ Ends → Appends c2 c3 left → IfKnown old (λ lines. Conversed Answers before after lines Quit (Appends c0 c3))
        Conversed-quit c3 ended sent =
            IfKnown-map old so_far
            (λ lines so. last lines so Quit (Appends c0 c3) (ended, SendsUpTo-all c0 c2 c3 (concat (so.replies ++ reply ∷ [])) left (goes lines so) sent))

        -- it ended the conversation, and a front of what waited went out
        pub Conversed-quit_cut : (c3 : Option (List ℕ)) → WritesFront c2 c3 left → IfKnown old (λ lines. Conversed Answers before after lines Write (Appends c0 c3))
        Conversed-quit_cut c3 written =
            IfKnown-map old so_far
            (λ lines so.
            let all = concat (so.replies ++ reply ∷ []) in
            last lines so Write (Appends c0 c3)
            (subst (λ (t : List ℕ). WritesFront c0 c3 t) (append-nil all)
            (WritesFront-behind c0 c2 c3 all left [] (goes lines so) (subst (λ (t : List ℕ). WritesFront c2 c3 t) (sym (append-nil left)) written))))

        -- the conversation goes on
        pub SoFar-line : flow ≡ GoesOn → IfKnown old (λ lines. SoFar Answers before lines new after c0 c2 left)
        SoFar-line on =
            IfKnown-map old so_far
            (λ lines so.
            let h = here lines so in
            record {
              rest = h.rest;
              source = h.source;
              done = so.done ++ h.line ∷ [];
              split = parted lines so h;
              replies = so.replies ++ reply ∷ [];
              talks = subst (λ (f : Flow). Talks Answers (before, GoesOn) (so.done ++ h.line ∷ []) (so.replies ++ reply ∷ []) (after, f)) on (told lines so h);
              out = goes lines so;
            })
