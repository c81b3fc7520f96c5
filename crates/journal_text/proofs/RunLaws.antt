-- A journal's text, item by item: what stands at a place is told by the bytes that follow.
use Rattle.std.proofs.Common.{◌≡◌, ℕ, ◌<◌, ◌≤◌, ◌⊎◌, inl, inr, List, [], ◌∷◌, ◌++◌, length, map, refl, sym, ap, ◌∙◌, subst, arith, append_assoc, codes, ℤ}
use Rattle.std.specs.Prelude.{All}
use Rattle.std.specs.List.{AllByRecursion, flat_map, join_with_byte}
use Rattle.std.specs.Fmt.{decimal, signed_decimal}
use Rattle.std.proofs.lemmas.List.{append-nil}
use Rattle.std.proofs.lemmas.List.Concat.{flat_map-append}
use Rattle.std.proofs.lemmas.List.Elements.{All-nil, All-push, All-head, All-tail}
use Rattle.clause_core.specs.Cnf.{literals_text}
use Rattle.clause_core.specs.Literal.{Literal, signed}
use Rattle.lrat_replay.specs.LratText.{hints_text, step_text}
use Rattle.lrat_replay.specs.StepRead.{IsLineOf}
use Rattle.lrat_replay.specs.declared.line.Step.{Step}
use Rattle.report_text.specs.Bounds.{AreRails, IsBlock}
use Rattle.report_text.specs.Pieces.{Without, Cuts, words}
use Rattle.report_text.specs.Report.{BlockParts, words_text, text_of, heading_words, heading_of, block_lines, block_text, lattice_lines, proofs_lines, line}
use Rattle.report_text.specs.Form.{form_of, lattice_of, lists}
use Rattle.report_text.specs.declared.answer.Version.{Version}
use Rattle.report_text.specs.declared.answer.Version.TheVariants.{One, Two}
use Rattle.report_text.proofs.Tools.{one_block, headings, pieces-join, Without-join, heading_of_block, text_of-block, same_cut, Without-append, Without-literal}
use Rattle.journal_text.specs.Bounds.{IsTarget, IsClose, IsWritten, MayStand, IsPart, IsJournal}
use Rattle.journal_text.specs.Lines.{IsLead, question_words, close_words}
use Rattle.journal_text.specs.Parts.{Part, JournalParts}
use Rattle.journal_text.specs.Parts.Part.{Question, Answered}
use Rattle.journal_text.specs.Reading.{first_word, title_text, rails_text, Place, before, IsPlace, Next, next_at}
use Rattle.journal_text.specs.Reading.Place.{AtTitle, AtRails, Outside, Inside}
use Rattle.journal_text.specs.Reading.Next.{Title, RailsLine, PartOrEnd, StepOrClose}
use Rattle.journal_text.specs.Text.{head_text, question_text, steps_text, close_text, section_text, part_text, parts_text, front_text}
use Rattle.journal_text.specs.declared.lead.Lead.{Lead}
use Rattle.journal_text.specs.declared.lead.Lead.TheVariants as leads
use Rattle.journal_text.specs.declared.target.Close.{Close}
use Rattle.journal_text.specs.declared.target.Close.TheVariants.{Refuted, Spent, Satisfied}
use Rattle.journal_text.specs.declared.target.Target.{Target}
use Rattle.journal_text.proofs.OriginLaws.{Without-decimal, Without-signed}
use Rattle.journal_text.proofs.TextLaws.{front-more, front-none, front-section}
use Rattle.journal_text.proofs.WordsLaws.{first_is, one_lead, questions, question_line, closes, close_line, some_close, rails_spelled, rails_line, same_title, one_step, step_line, step-line, step_number}

-- ---- items

pub data Item : Type 0 where
  TitleItem : Version → Item
  RailsItem : ℕ → Item
  QuestionItem : ℕ → Target → Item
  StepItem : Step → Item
  CloseItem : Close → Item
  AnswerItem : Version → BlockParts → Item

abbrev pub item_text : Item → List ℕ
item_text (TitleItem v) = title_text v
item_text (RailsItem n) = rails_text n
item_text (QuestionItem n t) = question_text n t
item_text (StepItem s) = step_text s.id s.clause s.hints
item_text (CloseItem c) = close_text c
item_text (AnswerItem v b) = block_text v b

abbrev pub items_text : List Item → List ℕ
items_text items = flat_map item_text items

-- what may come where this must come
abbrev pub Allowed : Next → Item → Type 0
Allowed Title (TitleItem v) = Unit {0}
Allowed Title (RailsItem n) = ⊥
Allowed Title (QuestionItem n t) = ⊥
Allowed Title (StepItem s) = ⊥
Allowed Title (CloseItem c) = ⊥
Allowed Title (AnswerItem w b) = ⊥
Allowed RailsLine (TitleItem v) = ⊥
Allowed RailsLine (RailsItem n) = n ≤ 1048575
Allowed RailsLine (QuestionItem n t) = ⊥
Allowed RailsLine (StepItem s) = ⊥
Allowed RailsLine (CloseItem c) = ⊥
Allowed RailsLine (AnswerItem w b) = ⊥
Allowed (PartOrEnd v) (TitleItem w) = ⊥
Allowed (PartOrEnd v) (RailsItem n) = ⊥
Allowed (PartOrEnd v) (QuestionItem n t) = (n ≤ 63) × IsTarget t
Allowed (PartOrEnd v) (StepItem s) = ⊥
Allowed (PartOrEnd v) (CloseItem c) = ⊥
Allowed (PartOrEnd v) (AnswerItem w b) = (w ≡ v) × IsBlock v b × MayStand b.answer
Allowed (StepOrClose v) (TitleItem w) = ⊥
Allowed (StepOrClose v) (RailsItem n) = ⊥
Allowed (StepOrClose v) (QuestionItem n t) = ⊥
Allowed (StepOrClose v) (StepItem s) = IsWritten s
Allowed (StepOrClose v) (CloseItem c) = IsClose c
Allowed (StepOrClose v) (AnswerItem w b) = ⊥

abbrev pub more_parts : JournalParts → Part → JournalParts
more_parts j p = record { version = j.version; rails = j.rails; parts = j.parts ++ p ∷ [] }

abbrev pub empty : Version → ℕ → JournalParts
empty v rails = record { version = v; rails = rails; parts = [] }

-- the place behind an item
abbrev pub move : Place → Item → Place
move AtTitle (TitleItem One) = Outside (empty One 1048575)
move AtTitle (TitleItem Two) = AtRails
move AtTitle (RailsItem n) = AtTitle
move AtTitle (QuestionItem n t) = AtTitle
move AtTitle (StepItem s) = AtTitle
move AtTitle (CloseItem c) = AtTitle
move AtTitle (AnswerItem w b) = AtTitle
move AtRails (TitleItem v) = AtRails
move AtRails (RailsItem n) = Outside (empty Two n)
move AtRails (QuestionItem n t) = AtRails
move AtRails (StepItem s) = AtRails
move AtRails (CloseItem c) = AtRails
move AtRails (AnswerItem w b) = AtRails
move (Outside j) (TitleItem v) = Outside j
move (Outside j) (RailsItem n) = Outside j
move (Outside j) (QuestionItem n t) = Inside j n t []
move (Outside j) (StepItem s) = Outside j
move (Outside j) (CloseItem c) = Outside j
move (Outside j) (AnswerItem w b) = Outside (more_parts j (Answered b))
move (Inside j n t ss) (TitleItem v) = Inside j n t ss
move (Inside j n t ss) (RailsItem m) = Inside j n t ss
move (Inside j n t ss) (QuestionItem m u) = Inside j n t ss
move (Inside j n t ss) (StepItem s) = Inside j n t (ss ++ s ∷ [])
move (Inside j n t ss) (CloseItem c) = Outside (more_parts j (Question (record { output = n; target = t; steps = ss; close = c })))
move (Inside j n t ss) (AnswerItem w b) = Inside j n t ss

-- the items lead from a place to another
abbrev pub RunsTo : Place → List Item → Place → Type 0
RunsTo p [] q = p ≡ q
RunsTo p (i ∷ items) q = Allowed (next_at p) i × RunsTo (move p i) items q

pub runs_append : (p q r : Place) (xs ys : List Item) → RunsTo p xs q → RunsTo q ys r → RunsTo p (xs ++ ys) r
runs_append p q r [] ys x y = subst (λ z. RunsTo z ys r) (sym x) y
runs_append p q r (i ∷ xs) ys x y = (x.0, runs_append (move p i) q r xs ys x.1 y)

-- ---- one item

pub steps-more : (ss : List Step) (s : Step) → steps_text (ss ++ s ∷ []) ≡ steps_text ss ++ step_text s.id s.clause s.hints
steps-more ss s = flat_map-append (λ step. step_text step.id step.clause step.hints) ss (s ∷ []) ∙ ap (λ z. steps_text ss ++ z) (append-nil (step_text s.id s.clause s.hints))

journal_more : (j : JournalParts) (p : Part) → IsJournal j → IsPart j.version p → IsJournal (more_parts j p)
journal_more j p h is = record { rails = h.rails; parts = All-push (IsPart j.version) j.parts p h.parts is }

-- the place behind an item is one, and the item's text stands before it
pub record Moved (p : Place) (i : Item) : Type 0 where
  pub text : before (move p i) ≡ before p ++ item_text i
  pub is_place : IsPlace (move p i)

title_front : front_text One 1048575 [] ≡ title_text One
unfolding head_text
title_front = front-none One 1048575

rails_front : (n : ℕ) → front_text Two n [] ≡ codes "lattice journal 2\n" ++ rails_text n
unfolding head_text
rails_front n = front-none Two n

pub moved : (p : Place) (i : Item) → IsPlace p → Allowed (next_at p) i → Moved p i
moved AtTitle (TitleItem One) h a = record { text = title_front; is_place = record { rails = refl; parts = All-nil (IsPart One) } }
moved AtTitle (TitleItem Two) h a = record { text = refl; is_place = tt }
moved AtTitle (RailsItem n) h a = absurd a
moved AtTitle (QuestionItem n t) h a = absurd a
moved AtTitle (StepItem s) h a = absurd a
moved AtTitle (CloseItem c) h a = absurd a
moved AtTitle (AnswerItem w b) h a = absurd a
moved AtRails (TitleItem v) h a = absurd a
moved AtRails (RailsItem n) h a = record { text = rails_front n; is_place = record { rails = a; parts = All-nil (IsPart Two) } }
moved AtRails (QuestionItem n t) h a = absurd a
moved AtRails (StepItem s) h a = absurd a
moved AtRails (CloseItem c) h a = absurd a
moved AtRails (AnswerItem w b) h a = absurd a
moved (Outside j) (TitleItem v) h a = absurd a
moved (Outside j) (RailsItem n) h a = absurd a
moved (Outside j) (QuestionItem n t) h a = record { text = ap (λ z. front_text j.version j.rails j.parts ++ z) (append-nil (question_text n t)); is_place = (h, a.0, a.1, All-nil IsWritten) }
moved (Outside j) (StepItem s) h a = absurd a
moved (Outside j) (CloseItem c) h a = absurd a
moved (Outside j) (AnswerItem w b) h a = record {
  text = front-more j.version j.rails j.parts (Answered b) ∙ ap (λ z. front_text j.version j.rails j.parts ++ block_text z b) (sym a.0);
  is_place = journal_more j (Answered b) h (a.1, a.2);
}
moved (Inside j n t ss) (TitleItem v) h a = absurd a
moved (Inside j n t ss) (RailsItem m) h a = absurd a
moved (Inside j n t ss) (QuestionItem m u) h a = absurd a
moved (Inside j n t ss) (StepItem s) h a = record {
  text = ap (λ z. front_text j.version j.rails j.parts ++ (question_text n t ++ z)) (steps-more ss s)
      ∙ ap (λ z. front_text j.version j.rails j.parts ++ z) (sym (append_assoc (question_text n t) (steps_text ss) (step_text s.id s.clause s.hints)))
      ∙ sym (append_assoc (front_text j.version j.rails j.parts) (question_text n t ++ steps_text ss) (step_text s.id s.clause s.hints));
  is_place = (h.0, h.1, h.2, All-push IsWritten ss s h.3 a);
}
moved (Inside j n t ss) (CloseItem c) h a = record {
  text = sym (front-section j.version j.rails j.parts (record { output = n; target = t; steps = ss; close = c })
      ((front_text j.version j.rails j.parts ++ (question_text n t ++ steps_text ss)) ++ close_text c)
      (ap (λ z. z ++ close_text c) (sym (append_assoc (front_text j.version j.rails j.parts) (question_text n t) (steps_text ss)))
      ∙ append_assoc (front_text j.version j.rails j.parts ++ question_text n t) (steps_text ss) (close_text c)));
  is_place = journal_more j (Question (record { output = n; target = t; steps = ss; close = c })) h.0 (record { output = h.1; target = h.2; steps = h.3; close = a });
}
moved (Inside j n t ss) (AnswerItem w b) h a = absurd a

-- ---- each place is reached

abbrev part_items : Version → Part → List Item
part_items v (Question s) = QuestionItem s.output s.target ∷ (map StepItem s.steps ++ CloseItem s.close ∷ [])
part_items v (Answered b) = AnswerItem v b ∷ []

abbrev parts_items : Version → List Part → List Item
parts_items v parts = flat_map (part_items v) parts

runs_steps : (j : JournalParts) (n : ℕ) (t : Target) (ss steps : List Step) → All IsWritten steps → RunsTo (Inside j n t ss) (map StepItem steps) (Inside j n t (ss ++ steps))
runs_steps j n t ss [] h = ap (Inside j n t) (sym (append-nil ss))
runs_steps j n t ss (s ∷ steps) h =
    (All-head IsWritten s steps h, subst (λ z. RunsTo (Inside j n t (ss ++ s ∷ [])) (map StepItem steps) (Inside j n t z)) (append_assoc ss (s ∷ []) steps) (runs_steps j n t (ss ++ s ∷ []) steps (All-tail IsWritten s steps h)))

runs_part : (j : JournalParts) (p : Part) → IsPart j.version p → RunsTo (Outside j) (part_items j.version p) (Outside (more_parts j p))
runs_part j (Question s) h =
    ((h.output, h.target), runs_append (Inside j s.output s.target []) (Inside j s.output s.target s.steps) (Outside (more_parts j (Question s))) (map StepItem s.steps) (CloseItem s.close ∷ []) (runs_steps j s.output s.target [] s.steps h.steps) (h.close, refl))
runs_part j (Answered b) h = ((refl, h.0, h.1), refl)

runs_parts : (v : Version) (rails : ℕ) (done parts : List Part) → All (IsPart v) parts
    → RunsTo (Outside (record { version = v; rails = rails; parts = done })) (parts_items v parts) (Outside (record { version = v; rails = rails; parts = done ++ parts }))
runs_parts v rails done [] h = ap (λ z. Outside (record { version = v; rails = rails; parts = z })) (sym (append-nil done))
runs_parts v rails done (p ∷ parts) h =
    runs_append (Outside (record { version = v; rails = rails; parts = done })) (Outside (record { version = v; rails = rails; parts = done ++ p ∷ [] })) (Outside (record { version = v; rails = rails; parts = done ++ p ∷ parts }))
    (part_items v p) (parts_items v parts) (runs_part (record { version = v; rails = rails; parts = done }) p (All-head (IsPart v) p parts h))
    (subst (λ z. RunsTo (Outside (record { version = v; rails = rails; parts = done ++ p ∷ [] })) (parts_items v parts) (Outside (record { version = v; rails = rails; parts = z }))) (append_assoc done (p ∷ []) parts)
    (runs_parts v rails (done ++ p ∷ []) parts (All-tail (IsPart v) p parts h)))

abbrev head_items : Version → ℕ → List Item
head_items One rails = TitleItem One ∷ []
head_items Two rails = TitleItem Two ∷ RailsItem rails ∷ []

runs_head : (v : Version) (rails : ℕ) → AreRails v rails → RunsTo AtTitle (head_items v rails) (Outside (empty v rails))
runs_head One rails h = (tt, ap (λ z. Outside (empty One z)) (sym h))
runs_head Two rails h = (tt, (h, refl))

texts-append : (xs ys : List Item) → items_text (xs ++ ys) ≡ items_text xs ++ items_text ys
texts-append xs ys = flat_map-append item_text xs ys

texts-steps : (steps : List Step) → items_text (map StepItem steps) ≡ steps_text steps
texts-steps [] = refl
texts-steps (s ∷ steps) = ap (λ z. step_text s.id s.clause s.hints ++ z) (texts-steps steps)

texts-part : (v : Version) (p : Part) → items_text (part_items v p) ≡ part_text v p
unfolding section_text
texts-part v (Question s) =
    ap (λ z. question_text s.output s.target ++ z) (texts-append (map StepItem s.steps) (CloseItem s.close ∷ []) ∙ (λ i. texts-steps s.steps i ++ append-nil (close_text s.close) i))
texts-part v (Answered b) = append-nil (block_text v b)

texts-parts : (v : Version) (parts : List Part) → items_text (parts_items v parts) ≡ parts_text v parts
texts-parts v [] = refl
texts-parts v (p ∷ parts) = texts-append (part_items v p) (parts_items v parts) ∙ (λ i. texts-part v p i ++ texts-parts v parts i)

texts-head : (v : Version) (rails : ℕ) → items_text (head_items v rails) ≡ head_text v rails
unfolding head_text
texts-head One rails = append-nil (title_text One)
texts-head Two rails = ap (λ z. title_text Two ++ z) (append-nil (rails_text rails))

-- from the title items lead to the place, and their text stands before it
pub record IsReached (p : Place) : Type 0 where
  pub items : List Item
  pub runs : RunsTo AtTitle items p
  pub text : before p ≡ items_text items

reached_outside : (j : JournalParts) → IsJournal j → IsReached (Outside j)
unfolding front_text
reached_outside j h = record {
  items = head_items j.version j.rails ++ parts_items j.version j.parts;
  runs = runs_append AtTitle (Outside (empty j.version j.rails)) (Outside j) (head_items j.version j.rails) (parts_items j.version j.parts) (runs_head j.version j.rails h.rails) (runs_parts j.version j.rails [] j.parts h.parts);
  text = (λ i. sym (texts-head j.version j.rails) i ++ sym (texts-parts j.version j.parts) i) ∙ sym (texts-append (head_items j.version j.rails) (parts_items j.version j.parts));
}

pub reached : (p : Place) → IsPlace p → IsReached p
reached AtTitle h = record { items = []; runs = refl; text = refl }
reached AtRails h = record { items = TitleItem Two ∷ []; runs = (tt, refl); text = sym (append-nil (title_text Two)) }
reached (Outside j) h = reached_outside j h
reached (Inside j n t ss) h =
    let out = reached_outside j h.0 in
    record {
      items = out.items ++ QuestionItem n t ∷ map StepItem ss;
      runs = runs_append AtTitle (Outside j) (Inside j n t ss) out.items (QuestionItem n t ∷ map StepItem ss) out.runs ((h.1, h.2), runs_steps j n t [] ss h.3);
      text = (λ i. out.text i ++ (question_text n t ++ sym (texts-steps ss) i)) ∙ sym (texts-append out.items (QuestionItem n t ∷ map StepItem ss));
    }

-- ---- first lines

-- what the first word of an item says
abbrev pub lead_for : Item → Lead
lead_for (TitleItem v) = leads.Unknown
lead_for (RailsItem n) = leads.Unknown
lead_for (QuestionItem n t) = leads.Question
lead_for (StepItem s) = leads.Number
lead_for (CloseItem c) = leads.Closing
lead_for (AnswerItem v b) = leads.Output

-- the item begins with this line
pub record Begins (i : Item) : Type 0 where
  pub line : List ℕ
  pub more : List ℕ
  pub text : item_text i ≡ line ++ 10 ∷ more
  pub one_line : Without 10 line
  pub lead : IsLead (lead_for i) (first_word line)

ten_apart : (10 < 48) ⊎ (57 < 10)
ten_apart = inl (omega arith)

Without-literals : (clause : List Literal) → Without 10 (literals_text clause)
Without-literals [] = tt
Without-literals (l ∷ clause) =
    Without-append 10 (signed_decimal (signed l) ++ 32 ∷ []) (literals_text clause)
    (Without-append 10 (signed_decimal (signed l)) (32 ∷ []) (Without-signed 10 (signed l) ten_apart (λ e. omega (arith, e))) ((λ e. omega (arith, e)), tt)) (Without-literals clause)

Without-hints : (hints : List ℤ) → Without 10 (hints_text hints)
Without-hints [] = tt
Without-hints (z ∷ hints) =
    Without-append 10 (signed_decimal z ++ 32 ∷ []) (hints_text hints)
    (Without-append 10 (signed_decimal z) (32 ∷ []) (Without-signed 10 z ten_apart (λ e. omega (arith, e))) ((λ e. omega (arith, e)), tt)) (Without-hints hints)

pub Without-step_line : (s : Step) → Without 10 (step_line s)
Without-step_line s =
    Without-append 10 (decimal s.id) (32 ∷ (literals_text s.clause ++ (48 ∷ 32 ∷ (hints_text s.hints ++ 48 ∷ [])))) (Without-decimal 10 s.id ten_apart) (
      (λ e. omega (arith, e)),
      Without-append 10 (literals_text s.clause) (48 ∷ 32 ∷ (hints_text s.hints ++ 48 ∷ [])) (Without-literals s.clause)
          ((λ e. omega (arith, e)), ((λ e. omega (arith, e)), Without-append 10 (hints_text s.hints) (48 ∷ []) (Without-hints s.hints) ((λ e. omega (arith, e)), tt))),
    )

pub line_of_step : (s : Step) → IsWritten s → IsLineOf (step_line s) s
line_of_step s h = record { is_step = h.is_step; text = step-line s }

begins_words : (i : Item) (ws : List (List ℕ)) (w : List ℕ) (more : List (List ℕ)) (behind : List ℕ) → ws ≡ w ∷ more → item_text i ≡ words_text ws ++ behind → ((at : ℕ) → at < 33 → AllByRecursion (Without at) ws) → IsLead (lead_for i) w → Begins i
begins_words i ws w more behind first text plain lead = record {
  line = join_with_byte 32 ws;
  more = behind;
  text = text ∙ append_assoc (join_with_byte 32 ws) (10 ∷ []) behind;
  one_line = Without-join 10 32 ws (λ e. omega (arith, e)) (plain 10 (omega arith));
  lead = subst (IsLead (lead_for i)) (sym (first_is (join_with_byte 32 ws) w more (pieces-join 32 ws (let k = ap length first in omega (arith, k)) (plain 32 (omega arith)) ∙ first))) lead;
}

pub begins_question : (n : ℕ) (t : Target) → (n ≤ 63) → IsTarget t → Begins (QuestionItem n t)
begins_question n t few is = begins_words (QuestionItem n t) (question_words n t) (codes "question") _ [] refl (sym (question_line n t) ∙ sym (append-nil (words_text (question_words n t)))) (λ at h. questions.plain at h (n, t) (few, is)) refl

pub begins_step : (s : Step) → IsWritten s → Begins (StepItem s)
begins_step s h = record { line = step_line s; more = []; text = step-line s; one_line = Without-step_line s; lead = step_number (step_line s) s (line_of_step s h) }

begins_close : (c : Close) → IsClose c → Begins (CloseItem c)
begins_close Refuted h = begins_words (CloseItem Refuted) (close_words Refuted) (codes "refuted") [] [] refl (sym (close_line Refuted) ∙ sym (append-nil (words_text (close_words Refuted)))) (λ at k. closes.plain at k Refuted h) (inl refl)
begins_close (Spent m) h = begins_words (CloseItem (Spent m)) (close_words (Spent m)) (codes "spent") _ [] refl (sym (close_line (Spent m)) ∙ sym (append-nil (words_text (close_words (Spent m))))) (λ at k. closes.plain at k (Spent m) h) (inr (inl refl))
begins_close Satisfied h =
    begins_words (CloseItem Satisfied) (close_words Satisfied) (codes "satisfied") [] [] refl (sym (close_line Satisfied) ∙ sym (append-nil (words_text (close_words Satisfied)))) (λ at k. closes.plain at k Satisfied h) (inr (inr refl))

block-front : (v : Version) (b : BlockParts) → block_text v b ≡ words_text (heading_words (heading_of b)) ++ text_of (lattice_lines (lattice_of b.answer) ++ proofs_lines (lists v (form_of b.answer)) b.proofs)
unfolding block_lines
block-front v b = sym (text_of-block v b)

pub begins_answer : (v : Version) (b : BlockParts) → IsBlock v b → Begins (AnswerItem v b)
begins_answer v b h =
    begins_words (AnswerItem v b) (heading_words (heading_of b)) (codes "output") _ (text_of (lattice_lines (lattice_of b.answer) ++ proofs_lines (lists v (form_of b.answer)) b.proofs)) refl (block-front v b)
    (λ at k. (headings v).plain at k (heading_of b) (heading_of_block v b h)) refl

-- ---- an item is told by the bytes

same_lines : (la lb ta tb X Y : List ℕ) → Without 10 la → Without 10 lb → ta ≡ la ++ 10 ∷ [] → tb ≡ lb ++ 10 ∷ [] → ta ++ X ≡ tb ++ Y → (la ≡ lb) × (X ≡ Y)
same_lines la lb ta tb X Y p q e f g =
    same_cut 10 la lb X Y p q (sym (append_assoc la (10 ∷ []) X) ∙ ap (λ z. z ++ X) (sym e) ∙ g ∙ ap (λ z. z ++ Y) f ∙ append_assoc lb (10 ∷ []) Y)

abbrev title_line : Version → List ℕ
title_line One = codes "lattice journal 1"
title_line Two = codes "lattice journal 2"

title-line : (v : Version) → title_text v ≡ title_line v ++ 10 ∷ []
title-line One = refl
title-line Two = refl

Without-title : (v : Version) → Without 10 (title_line v)
Without-title One = Without-literal 10 (codes "lattice journal 1") refl
Without-title Two = Without-literal 10 (codes "lattice journal 2") refl

det_title : (v w : Version) (X Y : List ℕ) → title_text v ++ X ≡ title_text w ++ Y → (v ≡ w) × (X ≡ Y)
det_title v w X Y e =
    let found = same_lines (title_line v) (title_line w) (title_text v) (title_text w) X Y (Without-title v) (Without-title w) (title-line v) (title-line w) e in
    (same_title v w (title-line v ∙ ap (λ z. z ++ 10 ∷ []) found.0 ∙ sym (title-line w)), found.1)

-- lines of words
det_words : (us vs : List (List ℕ)) (ta tb X Y : List ℕ) → ((at : ℕ) → at < 33 → AllByRecursion (Without at) us) → ((at : ℕ) → at < 33 → AllByRecursion (Without at) vs) → 0 < length us → 0 < length vs → words_text us ≡ ta → words_text vs ≡ tb
    → ta ++ X ≡ tb ++ Y → (us ≡ vs) × (X ≡ Y)
det_words us vs ta tb X Y p q some some' e f g =
    let found = same_lines (join_with_byte 32 us) (join_with_byte 32 vs) ta tb X Y (Without-join 10 32 us (λ z. omega (arith, z)) (p 10 (omega arith))) (Without-join 10 32 vs (λ z. omega (arith, z)) (q 10 (omega arith))) (sym e) (sym f) g in
    (sym (pieces-join 32 us some (p 32 (omega arith))) ∙ ap words found.0 ∙ pieces-join 32 vs some' (q 32 (omega arith)), found.1)

det_rails : (m n : ℕ) (X Y : List ℕ) → m ≤ 1048575 → n ≤ 1048575 → rails_text m ++ X ≡ rails_text n ++ Y → (m ≡ n) × (X ≡ Y)
det_rails m n X Y p q e =
    let found = det_words (codes "rails" ∷ decimal m ∷ []) (codes "rails" ∷ decimal n ∷ []) (rails_text m) (rails_text n) X Y (λ at k. rails_spelled.plain at k (m, tt) (p, tt)) (λ at k. rails_spelled.plain at k (n, tt) (q, tt))
    (omega arith) (omega arith) (rails_line m) (rails_line n) e in
    (ap (λ z. z.0) (rails_spelled.same (m, tt) (n, tt) (p, tt) (q, tt) found.0), found.1)

det_question : (m n : ℕ) (t u : Target) (X Y : List ℕ) → (m ≤ 63) × IsTarget t → (n ≤ 63) × IsTarget u → question_text m t ++ X ≡ question_text n u ++ Y → (QuestionItem m t ≡ QuestionItem n u) × (X ≡ Y)
det_question m n t u X Y p q e =
    let found = det_words (question_words m t) (question_words n u) (question_text m t) (question_text n u) X Y (λ at k. questions.plain at k (m, t) p) (λ at k. questions.plain at k (n, u) q) (omega arith) (omega arith)
    (question_line m t) (question_line n u) e in
    (ap (λ z. QuestionItem z.0 z.1) (questions.same (m, t) (n, u) p q found.0), found.1)

det_close : (c d : Close) (X Y : List ℕ) → IsClose c → IsClose d → close_text c ++ X ≡ close_text d ++ Y → (CloseItem c ≡ CloseItem d) × (X ≡ Y)
det_close c d X Y p q e =
    let found = det_words (close_words c) (close_words d) (close_text c) (close_text d) X Y (λ at k. closes.plain at k c p) (λ at k. closes.plain at k d q) (some_close c) (some_close d) (close_line c) (close_line d) e in
    (ap CloseItem (closes.same c d p q found.0), found.1)

det_step : (s t : Step) (X Y : List ℕ) → IsWritten s → IsWritten t → step_text s.id s.clause s.hints ++ X ≡ step_text t.id t.clause t.hints ++ Y → (StepItem s ≡ StepItem t) × (X ≡ Y)
det_step s t X Y p q e =
    let found = same_lines (step_line s) (step_line t) (step_text s.id s.clause s.hints) (step_text t.id t.clause t.hints) X Y (Without-step_line s) (Without-step_line t) (step-line s) (step-line t) e in
    (ap StepItem (one_step (step_line s) s t (line_of_step s p) (subst (λ z. IsLineOf z t) (sym found.0) (line_of_step t q))), found.1)

det_answer : (v a w : Version) (b c : BlockParts) (X Y : List ℕ) → (a ≡ v) × IsBlock v b × MayStand b.answer → (w ≡ v) × IsBlock v c × MayStand c.answer → block_text a b ++ X ≡ block_text w c ++ Y → (AnswerItem a b ≡ AnswerItem w c) × (X ≡ Y)
det_answer v a w b c X Y p q e =
    let same : block_text v b ++ X ≡ block_text v c ++ Y = ap (λ z. block_text z b ++ X) (sym p.0) ∙ e ∙ ap (λ z. block_text z c ++ Y) q.0 in
    let found = one_block v (block_text v b ++ X) b c X Y (record { is_block = p.1; text = refl }) (record { is_block = q.1; text = same }) in
    ((λ i. AnswerItem ((p.0 ∙ sym q.0) i) (found.0 i)), found.1)

-- an item that is one line
pub record IsOneLine (i : Item) : Type 0 where
  pub line : List ℕ
  pub text : item_text i ≡ line ++ 10 ∷ []
  pub one_line : Without 10 line

pub one_title : (v : Version) → IsOneLine (TitleItem v)
one_title v = record { line = title_line v; text = title-line v; one_line = Without-title v }

one_of_words : (i : Item) (ws : List (List ℕ)) → words_text ws ≡ item_text i → ((at : ℕ) → at < 33 → AllByRecursion (Without at) ws) → IsOneLine i
one_of_words i ws text plain = record { line = join_with_byte 32 ws; text = sym text; one_line = Without-join 10 32 ws (λ e. omega (arith, e)) (plain 10 (omega arith)) }

pub one_rails : (n : ℕ) → n ≤ 1048575 → IsOneLine (RailsItem n)
one_rails n h = one_of_words (RailsItem n) (codes "rails" ∷ decimal n ∷ []) (rails_line n) (λ at k. rails_spelled.plain at k (n, tt) (h, tt))

pub one_question : (n : ℕ) (t : Target) → (n ≤ 63) × IsTarget t → IsOneLine (QuestionItem n t)
one_question n t h = one_of_words (QuestionItem n t) (question_words n t) (question_line n t) (λ at k. questions.plain at k (n, t) h)

pub one_close : (c : Close) → IsClose c → IsOneLine (CloseItem c)
one_close c h = one_of_words (CloseItem c) (close_words c) (close_line c) (λ at k. closes.plain at k c h)

pub one_step_line : (s : Step) → IsOneLine (StepItem s)
one_step_line s = record { line = step_line s; text = step-line s; one_line = Without-step_line s }

-- where the bytes begin with it, it is their first line
pub at_front : (i : Item) (bytes line rest behind : List ℕ) → IsOneLine i → Cuts 10 bytes line rest → bytes ≡ item_text i ++ behind → (item_text i ≡ line ++ 10 ∷ []) × (rest ≡ behind)
at_front i bytes line rest behind one cut e =
    let found = same_cut 10 line one.line rest behind cut.first one.one_line (sym cut.text ∙ e ∙ ap (λ z. z ++ behind) one.text ∙ append_assoc one.line (10 ∷ []) behind) in
    (one.text ∙ ap (λ z. z ++ 10 ∷ []) (sym found.0), found.1)

-- the first line of an answer
pub answer_front : (v : Version) (b : BlockParts) (bytes line rest behind : List ℕ) → IsBlock v b → Cuts 10 bytes line rest → bytes ≡ block_text v b ++ behind → words line ≡ heading_words (heading_of b)
answer_front v b bytes line rest behind is cut e =
    let plain = λ (at : ℕ) (k : at < 33). (headings v).plain at k (heading_of b) (heading_of_block v b is) in
    let more : List ℕ = text_of (lattice_lines (lattice_of b.answer) ++ proofs_lines (lists v (form_of b.answer)) b.proofs) in
    let found = same_cut 10 line (join_with_byte 32 (heading_words (heading_of b))) rest (text_of (lattice_lines (lattice_of b.answer) ++ proofs_lines (lists v (form_of b.answer)) b.proofs) ++ behind) cut.first
    (Without-join 10 32 (heading_words (heading_of b)) (λ z. omega (arith, z)) (plain 10 (omega arith)))
    (sym cut.text ∙ e ∙ ap (λ z. z ++ behind) (block-front v b) ∙ append_assoc (words_text (heading_words (heading_of b))) more behind ∙ append_assoc (join_with_byte 32 (heading_words (heading_of b))) (10 ∷ []) (more ++ behind)) in
    ap words found.0 ∙ pieces-join 32 (heading_words (heading_of b)) (omega arith) (plain 32 (omega arith))

-- items whose first words say different things
apart : (i k : Item) (X Y : List ℕ) → Begins i → Begins k → item_text i ++ X ≡ item_text k ++ Y → lead_for i ≡ lead_for k
apart i k X Y p q e =
    let cut = same_cut 10 p.line q.line (p.more ++ X) (q.more ++ Y) p.one_line q.one_line
    (sym (append_assoc p.line (10 ∷ p.more) X) ∙ ap (λ z. z ++ X) (sym p.text) ∙ e ∙ ap (λ z. z ++ Y) q.text ∙ append_assoc q.line (10 ∷ q.more) Y) in
    one_lead (first_word p.line) (lead_for i) (lead_for k) p.lead (subst (λ z. IsLead (lead_for k) (first_word z)) (sym cut.0) q.lead)

pub begins : (v : Version) (i : Item) → Allowed (PartOrEnd v) i ⊎ Allowed (StepOrClose v) i → Begins i
begins v (TitleItem w) (inl a) = absurd a
begins v (TitleItem w) (inr a) = absurd a
begins v (RailsItem n) (inl a) = absurd a
begins v (RailsItem n) (inr a) = absurd a
begins v (QuestionItem n t) (inl a) = begins_question n t a.0 a.1
begins v (QuestionItem n t) (inr a) = absurd a
begins v (StepItem s) (inl a) = absurd a
begins v (StepItem s) (inr a) = begins_step s a
begins v (CloseItem c) (inl a) = absurd a
begins v (CloseItem c) (inr a) = begins_close c a
begins v (AnswerItem w b) (inl a) = subst (λ z. Begins (AnswerItem z b)) (sym a.0) (begins_answer v b a.1)
begins v (AnswerItem w b) (inr a) = absurd a

det_part : (v : Version) (i k : Item) (X Y : List ℕ) → Allowed (PartOrEnd v) i → Allowed (PartOrEnd v) k → item_text i ++ X ≡ item_text k ++ Y → (i ≡ k) × (X ≡ Y)
det_part v (QuestionItem m t) (QuestionItem n u) X Y p q e = det_question m n t u X Y p q e
det_part v (AnswerItem a b) (AnswerItem w c) X Y p q e = det_answer v a w b c X Y p q e
det_part v (QuestionItem m t) (AnswerItem w c) X Y p q e = absurd (let f = apart (QuestionItem m t) (AnswerItem w c) X Y (begins v (QuestionItem m t) (inl p)) (begins v (AnswerItem w c) (inl q)) e in cc)
det_part v (AnswerItem a b) (QuestionItem n u) X Y p q e = absurd (let f = apart (AnswerItem a b) (QuestionItem n u) X Y (begins v (AnswerItem a b) (inl p)) (begins v (QuestionItem n u) (inl q)) e in cc)
det_part v (TitleItem w) k X Y p q e = absurd p
det_part v (RailsItem n) k X Y p q e = absurd p
det_part v (StepItem s) k X Y p q e = absurd p
det_part v (CloseItem c) k X Y p q e = absurd p
det_part v (QuestionItem m t) (TitleItem w) X Y p q e = absurd q
det_part v (QuestionItem m t) (RailsItem n) X Y p q e = absurd q
det_part v (QuestionItem m t) (StepItem s) X Y p q e = absurd q
det_part v (QuestionItem m t) (CloseItem c) X Y p q e = absurd q
det_part v (AnswerItem a b) (TitleItem w) X Y p q e = absurd q
det_part v (AnswerItem a b) (RailsItem n) X Y p q e = absurd q
det_part v (AnswerItem a b) (StepItem s) X Y p q e = absurd q
det_part v (AnswerItem a b) (CloseItem c) X Y p q e = absurd q

det_inner : (v : Version) (i k : Item) (X Y : List ℕ) → Allowed (StepOrClose v) i → Allowed (StepOrClose v) k → item_text i ++ X ≡ item_text k ++ Y → (i ≡ k) × (X ≡ Y)
det_inner v (StepItem s) (StepItem t) X Y p q e = det_step s t X Y p q e
det_inner v (CloseItem c) (CloseItem d) X Y p q e = det_close c d X Y p q e
det_inner v (StepItem s) (CloseItem d) X Y p q e = absurd (let f = apart (StepItem s) (CloseItem d) X Y (begins v (StepItem s) (inr p)) (begins v (CloseItem d) (inr q)) e in cc)
det_inner v (CloseItem c) (StepItem t) X Y p q e = absurd (let f = apart (CloseItem c) (StepItem t) X Y (begins v (CloseItem c) (inr p)) (begins v (StepItem t) (inr q)) e in cc)
det_inner v (TitleItem w) k X Y p q e = absurd p
det_inner v (RailsItem n) k X Y p q e = absurd p
det_inner v (QuestionItem n t) k X Y p q e = absurd p
det_inner v (AnswerItem w b) k X Y p q e = absurd p
det_inner v (StepItem s) (TitleItem w) X Y p q e = absurd q
det_inner v (StepItem s) (RailsItem n) X Y p q e = absurd q
det_inner v (StepItem s) (QuestionItem n t) X Y p q e = absurd q
det_inner v (StepItem s) (AnswerItem w b) X Y p q e = absurd q
det_inner v (CloseItem c) (TitleItem w) X Y p q e = absurd q
det_inner v (CloseItem c) (RailsItem n) X Y p q e = absurd q
det_inner v (CloseItem c) (QuestionItem n t) X Y p q e = absurd q
det_inner v (CloseItem c) (AnswerItem w b) X Y p q e = absurd q

det : (n : Next) (i k : Item) (X Y : List ℕ) → Allowed n i → Allowed n k → item_text i ++ X ≡ item_text k ++ Y → (i ≡ k) × (X ≡ Y)
det Title (TitleItem v) (TitleItem w) X Y p q e = let found = det_title v w X Y e in (ap TitleItem found.0, found.1)
det Title (TitleItem v) (RailsItem n) X Y p q e = absurd q
det Title (TitleItem v) (QuestionItem n t) X Y p q e = absurd q
det Title (TitleItem v) (StepItem s) X Y p q e = absurd q
det Title (TitleItem v) (CloseItem c) X Y p q e = absurd q
det Title (TitleItem v) (AnswerItem w b) X Y p q e = absurd q
det Title (RailsItem n) k X Y p q e = absurd p
det Title (QuestionItem n t) k X Y p q e = absurd p
det Title (StepItem s) k X Y p q e = absurd p
det Title (CloseItem c) k X Y p q e = absurd p
det Title (AnswerItem w b) k X Y p q e = absurd p
det RailsLine (RailsItem m) (RailsItem n) X Y p q e = let found = det_rails m n X Y p q e in (ap RailsItem found.0, found.1)
det RailsLine (RailsItem m) (TitleItem v) X Y p q e = absurd q
det RailsLine (RailsItem m) (QuestionItem n t) X Y p q e = absurd q
det RailsLine (RailsItem m) (StepItem s) X Y p q e = absurd q
det RailsLine (RailsItem m) (CloseItem c) X Y p q e = absurd q
det RailsLine (RailsItem m) (AnswerItem w b) X Y p q e = absurd q
det RailsLine (TitleItem v) k X Y p q e = absurd p
det RailsLine (QuestionItem n t) k X Y p q e = absurd p
det RailsLine (StepItem s) k X Y p q e = absurd p
det RailsLine (CloseItem c) k X Y p q e = absurd p
det RailsLine (AnswerItem w b) k X Y p q e = absurd p
det (PartOrEnd v) i k X Y p q e = det_part v i k X Y p q e
det (StepOrClose v) i k X Y p q e = det_inner v i k X Y p q e

-- the bytes go on with nothing that may come
abbrev pub Stuck : Next → List ℕ → Type 0
Stuck n bytes = (i : Item) (rest : List ℕ) → Allowed n i → bytes ≡ item_text i ++ rest → ⊥

-- the bytes tell how far they go as a journal may
pub compare : (p q r : Place) (xs ys : List Item) (E F : List ℕ) → RunsTo p xs q → RunsTo p ys r → Stuck (next_at q) E → Stuck (next_at r) F → items_text xs ++ E ≡ items_text ys ++ F → (q ≡ r) × (E ≡ F)
compare p q r [] [] E F x y s t e = (sym x ∙ y, e)
compare p q r [] (k ∷ ys) E F x y s t e =
    absurd (s k (items_text ys ++ F) (subst (λ z. Allowed (next_at z) k) x y.0) (e ∙ append_assoc (item_text k) (items_text ys) F))
compare p q r (i ∷ xs) [] E F x y s t e =
    absurd (t i (items_text xs ++ E) (subst (λ z. Allowed (next_at z) i) y x.0) (sym e ∙ append_assoc (item_text i) (items_text xs) E))
compare p q r (i ∷ xs) (k ∷ ys) E F x y s t e =
    let found = det (next_at p) i k (items_text xs ++ E) (items_text ys ++ F) x.0 y.0 (sym (append_assoc (item_text i) (items_text xs) E) ∙ e ∙ append_assoc (item_text k) (items_text ys) F) in
    compare (move p k) q r xs ys E F (subst (λ z. RunsTo (move p z) xs q) found.0 x.1) y.1 s t found.1

-- one place where a text does not go on
pub one_place : (text : List ℕ) (p q : Place) (E F : List ℕ) → IsPlace p → IsPlace q → text ≡ before p ++ E → text ≡ before q ++ F → Stuck (next_at p) E → Stuck (next_at q) F → (p ≡ q) × (E ≡ F)
one_place text p q E F h k e f s t =
    let one = reached p h in
    let two = reached q k in
    compare AtTitle p q one.items two.items E F one.runs two.runs s t (ap (λ z. z ++ E) (sym one.text) ∙ sym e ∙ f ∙ ap (λ z. z ++ F) two.text)
