-- Reading the parts of a journal one after another.
use Rattle.std.proofs.Common.{◌≡◌, ◌≢◌, ℕ, suc, ◌+◌, ◌-◌, ◌<◌, ◌≤◌, inl, inr, Bool, true, false, cond, ◌==◌, List, [], ◌∷◌, ◌++◌, length, get_or, take, drop, map, refl, sym, ap, ◌∙◌, subst, arith, append_assoc, length-append, codes}
use Rattle.std.specs.Prelude.{All}
use Rattle.std.specs.Fmt.{decimal}
use Rattle.std.proofs.lemmas.List.{append-nil, map_push, take_rest}
use Rattle.std.proofs.lemmas.List.Concat.{flat_map-append}
use Rattle.std.proofs.lemmas.List.Elements.{All-nil, All-push, All-append}
use Rattle.report_text.specs.Bounds.{AreRails, IsBlock}
use Rattle.report_text.specs.Expected.{IsHeading, block_expected}
use Rattle.report_text.specs.Expected.Expected.{Heading}
use Rattle.report_text.specs.Pieces.{Without, Cuts, words, feeds}
use Rattle.report_text.specs.Reading.{HasBlock, IsBlockFault}
use Rattle.report_text.specs.Report.{BlockParts, heading_words, block_lines, block_text, lines_in, text_of, parts_of_block}
use Rattle.report_text.specs.declared.answer.Block.{Block}
use Rattle.report_text.specs.declared.answer.Version.{Version}
use Rattle.report_text.specs.declared.answer.Version.TheVariants.{One, Two}
use Rattle.report_text.specs.declared.block.BlockFault.{BlockFault}
use Rattle.report_text.specs.declared.block.BlockFault.TheVariants as faults
use Rattle.report_text.specs.declared.form.Form.{Form}
use Rattle.report_text.specs.declared.form.Form.TheVariants.{Found, Minimum, Undecided, Mapped, NoneMapped, MapUndecided, NoRails}
use Rattle.report_text.proofs.Tools.{fault_of, block_shorter, feeds-append, feeds-none, feeds-line, block_lead, said_block, text_of-block, stops_here, feeds-lines}
use Rattle.journal_text.specs.Bounds.{IsTarget, IsPart, IsJournal}
use Rattle.journal_text.specs.Lines.{SaysFound, question_words, HasSteps, IsRefusedInside, refusal_for, IsRefusedBehind, IsPartAt, AreParts, first_number}
use Rattle.journal_text.specs.Parts.{Part, part_of}
use Rattle.journal_text.specs.Parts.Part.{Question, Answered}
use Rattle.journal_text.specs.Reading.{first_word, TellsFound, title_text, before, Halts, IsRefused, IsNumbered, AreLined}
use Rattle.journal_text.specs.Reading.Place.{Outside, Inside}
use Rattle.journal_text.specs.Reading.Next.{PartOrEnd}
use Rattle.journal_text.specs.Text.{head_text, question_text, steps_text, close_text, section_text, part_text, parts_text, front_text, journal_text}
use Rattle.journal_text.specs.declared.journal.Part.{Part as PartRead}
use Rattle.journal_text.specs.declared.journal.PartKind.TheVariants as kinds
use Rattle.journal_text.specs.declared.journal.SectionText.{SectionText}
use Rattle.journal_text.specs.declared.journal.StepLine.{StepLine}
use Rattle.journal_text.specs.declared.refusal.JournalRefusal.{JournalRefusal}
use Rattle.journal_text.specs.declared.refusal.JournalRefusal.TheVariants as refusals
use Rattle.journal_text.specs.declared.target.Close.{Close}
use Rattle.journal_text.specs.declared.target.Target.{Target}
use Rattle.journal_text.proofs.OriginLaws.{Without-decimal}
use Rattle.journal_text.proofs.ReadLaws.{feeds-steps, length-steps, steps_of}
use Rattle.journal_text.proofs.RunLaws.{one_close, answer_front, empty}
use Rattle.journal_text.proofs.RunLaws.Item.{QuestionItem, AnswerItem}
use Rattle.journal_text.proofs.TextLaws.{front-none, joins_front}
use Rattle.journal_text.proofs.VerdictLaws.{behind_line, answer_halts, may_stand, tested_found, item_some}
use Rattle.journal_text.proofs.WordsLaws.{words_of_question, question_of_words}
use Rattle.std.proofs.lemmas.List.{length-map}

-- ---- refused outside of sections

pub outside_refused : (v : Version) (bytes : List ℕ) (here : ℕ) (r : JournalRefusal) → Halts (PartOrEnd v) bytes here r → IsRefusedBehind v bytes here r
outside_refused v bytes here r h = λ other j is same number.
    record {
      place = Outside j;
      bytes = bytes;
      is_place = is;
      text_is = refl;
      halts = subst (λ z. Halts (PartOrEnd z) bytes (1 + feeds (before (Outside j))) r) (sym same) (subst (λ (z : ℕ). Halts (PartOrEnd v) bytes z r) number h);
    }

-- ---- sections

cut_here : (line rest : List ℕ) → Without 10 line → Cuts 10 (line ++ 10 ∷ rest) line rest
cut_here line rest h = record { text = refl; first = h }

pub question_refused : (line rest : List ℕ) (here : ℕ) → first_word line ≡ codes "question" → Without 10 line → ((n : ℕ) (t : Target) → n ≤ 63 → IsTarget t → words line ≢ question_words n t)
    → (v : Version) → IsRefusedBehind v (line ++ 10 ∷ rest) here (refusals.Question here)
question_refused line rest here w one none = λ v.
    outside_refused v (line ++ 10 ∷ rest) here (refusals.Question here) (refl, (line, rest, cut_here line rest one, inl (w, (λ (n, t, few, is, e). none n t few is (words_of_question line n t (few, is) e)))))

one_feed : (text line : List ℕ) → text ≡ line ++ 10 ∷ [] → Without 10 line → feeds text ≡ 1
one_feed text line e h = ap feeds e ∙ feeds-line line [] h

pub section_refused : (line rest : List ℕ) (here : ℕ) (n : ℕ) (t : Target) (r : JournalRefusal) → Without 10 line → n ≤ 63 → IsTarget t → words line ≡ question_words n t → (r ≢ refusals.NoMemory → IsRefusedInside rest (here + 1) r)
    → (v : Version) → IsRefusedBehind v (line ++ 10 ∷ rest) here r
section_refused line rest here n t r one few is e stop = λ v other j journal same number.
    let text = question_of_words line n t e in
    let feed = one_feed (question_text n t) line text one in
    let none : question_text n t ++ [] ≡ question_text n t = append-nil (question_text n t) in
    let next : here + 1 ≡ 1 + feeds (before (Inside j n t [])) =
    (let inner = ap feeds none in omega (arith, number, feed, inner, feeds-append (front_text j.version j.rails j.parts) (question_text n t ++ []))) in
    let whole : before (Inside j n t []) ++ rest ≡ before (Outside j) ++ (line ++ 10 ∷ rest) =
    ap (λ z. (front_text j.version j.rails j.parts ++ z) ++ rest) (none ∙ text) ∙ append_assoc (front_text j.version j.rails j.parts) (line ++ 10 ∷ []) rest ∙ ap (λ z. front_text j.version j.rails j.parts ++ z) (append_assoc line (10 ∷ []) rest) in
    subst (λ z. IsRefused z r) whole (stop other j n t journal few is next)

pub section_bound : (bytes : List ℕ) (first : ℕ) (steps : List StepLine) (c : Close) (close_line : ℕ) (rest : List ℕ) → HasSteps bytes first steps c close_line rest → close_line + 1 + length rest ≤ first + length bytes
section_bound bytes first steps c close_line rest h =
    let long = ap length h.text in
    let few = length-steps (steps_of steps) in
    let number = h.close_is in
    let one = one_close c h.is_close in
    let close = ap length one.text in
    omega (arith, long, few, number, close, length-append (steps_text (steps_of steps)) (close_text c ++ rest), length-append (close_text c) rest, length-append one.line (10 ∷ []), length-map steps (λ (l : StepLine). l.step))

pub section_part : (line rest : List ℕ) (here : ℕ) (s : SectionText) (after : List ℕ) → Without 10 line → s.output ≤ 63 → IsTarget s.target → words line ≡ question_words s.output s.target → HasSteps rest (here + 1) s.steps.items s.close s.close_line after
    → (v : Version) → IsPartAt v here (line ++ 10 ∷ rest) (record { line = here; what = kinds.Question s }) after (s.close_line + 1)
unfolding section_text
section_part line rest here s after one few is e h = λ v.
    let text = question_of_words line s.output s.target e in
    let feed = one_feed (question_text s.output s.target) line text one in
    let steps = feeds-steps (steps_of s.steps.items) in
    let same = length-map s.steps.items (λ (l : StepLine). l.step) in
    let closes = one_close s.close h.is_close in
    let close = one_feed (close_text s.close) closes.line closes.text closes.one_line in
    let number = h.close_is in
    record {
      is_part = record { output = few; target = is; steps = h.written; close = h.is_close };
      text = behind_line (line ++ 10 ∷ rest) line rest (question_text s.output s.target) (cut_here line rest one) text
          ∙ ap (λ z. question_text s.output s.target ++ z) (h.text ∙ sym (append_assoc (steps_text (steps_of s.steps.items)) (close_text s.close) after))
          ∙ sym (append_assoc (question_text s.output s.target) (steps_text (steps_of s.steps.items) ++ close_text s.close) after);
      line_is = refl;
      numbered = (h.numbered, h.close_is);
      next_is = omega (arith, feed, steps, same, close, number, feeds-append (question_text s.output s.target) (steps_text (steps_of s.steps.items) ++ close_text s.close), feeds-append (steps_text (steps_of s.steps.items)) (close_text s.close));
    }

-- ---- answers

fourth : (ws : List (List ℕ)) → ℕ
fourth ws = get_or (get_or ws 3 []) 0 0

says_by_heading : (line : List ℕ) (output : ℕ) (name : List ℕ) (v : Version) (form : Form) → IsHeading v (record { output = output; name = name; form = form }) → words line ≡ heading_words (record { output = output; name = name; form = form })
    → SaysFound line → TellsFound line
unfolding fourth
says_by_heading line output name v (Found s) is e says = record { output = output; name = name; size = s; few = is.output; is_name = is.name; is_size = is.form; words_are = e }
says_by_heading line output name v (Minimum s) is e (a, b, c, ws, f) = absurd (omega (arith, ap fourth (sym e ∙ f)))
says_by_heading line output name v (Undecided s l at n) is e (a, b, c, ws, f) = absurd (omega (arith, ap fourth (sym e ∙ f)))
says_by_heading line output name v (Mapped d) is e (a, b, c, ws, f) = absurd (omega (arith, ap fourth (sym e ∙ f)))
says_by_heading line output name v (NoneMapped d) is e (a, b, c, ws, f) = absurd (omega (arith, ap fourth (sym e ∙ f)))
says_by_heading line output name v (MapUndecided d n) is e (a, b, c, ws, f) = absurd (omega (arith, ap fourth (sym e ∙ f)))
says_by_heading line output name v (NoRails x y) is e (a, b, c, ws, f) = absurd (omega (arith, ap fourth (sym e ∙ f)))

says_of_tells : (line : List ℕ) → TellsFound line → SaysFound line
says_of_tells line h = (_, _, _, _, h.words_are)

pub found_refused : (v : Version) (bytes line rest : List ℕ) (here : ℕ) → Cuts 10 bytes line rest → first_word line ≡ codes "output" → SaysFound line → IsRefusedBehind v bytes here (refusals.Block here)
found_refused v bytes line rest here cut w says =
    outside_refused v bytes here (refusals.Block here) (answer_halts v bytes line rest here (faults.Block here) (λ e. absurd cc) cut w
    (elim (tested_found v line) [
      | inl found ↦ inl (found, refl)
      | inr none ↦ inr (
        none,
        fault_of v bytes here (faults.Block here) (λ e. absurd cc)
            (stops_here (Heading v) [] bytes line rest here cut (λ more x. none (says_by_heading line x.heading.output x.heading.name v x.heading.form x.is_heading x.words_are says))),
      )
    ]))

pub answer_refused : (v : Version) (bytes line rest : List ℕ) (here : ℕ) (fault : BlockFault) (r : JournalRefusal) → Cuts 10 bytes line rest → first_word line ≡ codes "output" → (SaysFound line → ⊥) → (fault ≢ faults.NoMemory → IsBlockFault v bytes here fault)
    → r ≡ refusal_for fault → IsRefusedBehind v bytes here r
answer_refused v bytes line rest here fault r cut w quiet is same = λ other.
    let known : fault ≢ faults.NoMemory = λ e. other (same ∙ ap refusal_for e) in
    outside_refused v bytes here r
    (subst (Halts (PartOrEnd v) bytes here) (sym same) (answer_halts v bytes line rest here fault known cut w (inr ((λ h. quiet (says_of_tells line h)), is known)))) other

feeds-block : (v : Version) (b : BlockParts) → IsBlock v b → feeds (block_text v b) ≡ lines_in v b
feeds-block v b is =
    let all = feeds-lines (block_expected v) [] (block_lines v b) [] (said_block v).wide (block_lead v b is) in
    let same = ap feeds (sym (text_of-block v b) ∙ sym (append-nil (text_of (block_lines v b)))) in
    omega (arith, all, same)

pub answer_part : (v : Version) (bytes line rest : List ℕ) (here after lines : ℕ) (b : Block) → Cuts 10 bytes line rest → (SaysFound line → ⊥) → HasBlock v bytes (parts_of_block b) (drop after bytes) → lines ≡ lines_in v (parts_of_block b)
    → IsPartAt v here bytes (record { line = here; what = kinds.Answer b }) (take (length bytes - after) (drop after bytes)) (here + lines)
answer_part v bytes line rest here after lines b cut quiet has many =
    let count = feeds-block v (parts_of_block b) has.is_block in
    record {
      is_part = (
        has.is_block,
        may_stand v line (parts_of_block b) has.is_block (answer_front v (parts_of_block b) bytes line rest (drop after bytes) has.is_block cut has.text) (λ h. quiet (says_of_tells line h)),
      );
      text = has.text ∙ ap (λ z. block_text v (parts_of_block b) ++ z) (sym (take_rest bytes after));
      line_is = refl;
      numbered = tt;
      next_is = omega (arith, count, many);
    }

pub answer_bound : (v : Version) (bytes : List ℕ) (here lines : ℕ) (b : BlockParts) (rest : List ℕ) → HasBlock v bytes b rest → lines ≡ lines_in v b → here + lines ≤ here + length bytes
answer_bound v bytes here lines b rest has many = let few = block_shorter v bytes b rest has in omega (arith, few, many)

-- ---- parts one after another

abbrev pub parts_of : List PartRead → List Part
parts_of parts = map part_of parts

-- these parts were read, and the next line has this number
pub record PartsRead (v : Version) (bytes : List ℕ) (first : ℕ) (parts : List PartRead) (rest : List ℕ) (number : ℕ) : Type 0 where
  pub each : All (IsPart v) (parts_of parts)
  pub text : bytes ≡ parts_text v (parts_of parts) ++ rest
  pub lined : AreLined v first parts
  pub number_is : number ≡ first + feeds (parts_text v (parts_of parts))

pub PartsRead-none : (v : Version) (bytes : List ℕ) (first : ℕ) (parts : List PartRead) → parts ≡ [] → PartsRead v bytes first parts bytes first
PartsRead-none v bytes first parts e = subst (λ ps. PartsRead v bytes first ps bytes first) (sym e) (record { each = All-nil (IsPart v); text = refl; lined = tt; number_is = omega arith })

lined-push : (v : Version) (first : ℕ) (parts : List PartRead) (p : PartRead) (number : ℕ) → AreLined v first parts → number ≡ first + feeds (parts_text v (parts_of parts)) → p.line ≡ number → IsNumbered (number + 1) p.what → AreLined v first (parts ++ p ∷ [])
lined-push v first [] p number h e same inner =
    let is : number ≡ first = (let z = e in omega (arith, z)) in (same ∙ is, subst (λ (z : ℕ). IsNumbered (z + 1) p.what) is inner, tt)
lined-push v first (q ∷ parts) p number h e same inner =
    (h.0, h.1, lined-push v (first + feeds (part_text v (part_of q))) parts p number h.2 (let z = e in omega (arith, z, feeds-append (part_text v (part_of q)) (parts_text v (parts_of parts)))) same inner)

parts-push : (v : Version) (parts : List Part) (p : Part) → parts_text v (parts ++ p ∷ []) ≡ parts_text v parts ++ part_text v p
parts-push v parts p = flat_map-append (part_text v) parts (p ∷ []) ∙ ap (λ z. parts_text v parts ++ z) (append-nil (part_text v p))

pub PartsRead-push : (v : Version) (bytes : List ℕ) (first : ℕ) (parts more : List PartRead) (rest : List ℕ) (number : ℕ) (p : PartRead) (after : List ℕ) (next : ℕ) → PartsRead v bytes first parts rest number → IsPartAt v number rest p after next
    → more ≡ parts ++ p ∷ [] → PartsRead v bytes first more after next
PartsRead-push v bytes first parts more rest number p after next h is e =
    let pushed : parts_of (parts ++ p ∷ []) ≡ parts_of parts ++ part_of p ∷ [] = map_push part_of parts p in
    subst (λ z. PartsRead v bytes first z after next) (sym e) (record {
      each = subst (All (IsPart v)) (sym pushed) (All-push (IsPart v) (parts_of parts) (part_of p) h.each is.is_part);
      text = h.text ∙ ap (λ z. parts_text v (parts_of parts) ++ z) is.text ∙ sym (append_assoc (parts_text v (parts_of parts)) (part_text v (part_of p)) after)
          ∙ ap (λ z. z ++ after) (sym (ap (parts_text v) pushed ∙ parts-push v (parts_of parts) (part_of p)));
      lined = lined-push v first parts p number h.lined h.number_is is.line_is is.numbered;
      number_is = (
          let count = h.number_is in
          let step = is.next_is in
          let all = ap feeds (ap (parts_text v) pushed ∙ parts-push v (parts_of parts) (part_of p)) in
          omega (arith, count, step, all, feeds-append (parts_text v (parts_of parts)) (part_text v (part_of p)))
          );
    })

feeds_few : (bytes : List ℕ) → feeds bytes ≤ length bytes
feeds_few [] = omega arith
feeds_few (b ∷ bytes) = by (b == 10) (feeds bytes) (length bytes) (feeds_few bytes) where
  by : (t : Bool) (n m : ℕ) → n ≤ m → cond t (suc n) n ≤ suc m
  by true n m h = omega (arith, h)
  by false n m h = omega (arith, h)

pub parts_bound : (v : Version) (bytes : List ℕ) (first : ℕ) (parts : List PartRead) (rest : List ℕ) (number : ℕ) → PartsRead v bytes first parts rest number → number + length rest ≤ first + length bytes
parts_bound v bytes first parts rest number h =
    let count = h.number_is in
    let long = ap length h.text in
    let few = feeds_few (parts_text v (parts_of parts)) in
    omega (arith, count, long, few, length-append (parts_text v (parts_of parts)) rest)

part_some : (v : Version) (p : Part) → IsPart v p → 1 ≤ length (part_text v p)
unfolding section_text
part_some v (Question s) h =
    let some = item_some (PartOrEnd v) (QuestionItem s.output s.target) (h.output, h.target) in
    omega (arith, some, length-append (question_text s.output s.target) (steps_text s.steps ++ close_text s.close))
part_some v (Answered b) h = item_some (PartOrEnd v) (AnswerItem v b) (refl, h.0, h.1)

pub part_shorter : (v : Version) (here : ℕ) (bytes : List ℕ) (p : PartRead) (rest : List ℕ) (next : ℕ) → IsPartAt v here bytes p rest next → length rest < length bytes
part_shorter v here bytes p rest next h =
    let some = part_some v (part_of p) h.is_part in
    let long = ap length h.text in
    omega (arith, some, long, length-append (part_text v (part_of p)) rest)

-- behind parts the text is refused as it is there
pub parts_refused : (v : Version) (bytes : List ℕ) (first : ℕ) (parts : List PartRead) (rest : List ℕ) (number : ℕ) (r : JournalRefusal) → PartsRead v bytes first parts rest number → IsRefusedBehind v rest number r → IsRefusedBehind v bytes first r
parts_refused v bytes first parts rest number r h stop = λ other j is same here.
    let front : front_text j.version j.rails (j.parts ++ parts_of parts) ≡ front_text j.version j.rails j.parts ++ parts_text j.version (parts_of parts) = joins_front j.version j.rails j.parts (parts_of parts) in
    let text : before (Outside (record { version = j.version; rails = j.rails; parts = j.parts ++ parts_of parts })) ++ rest ≡ before (Outside j) ++ bytes =
    ap (λ z. z ++ rest) front ∙ append_assoc (front_text j.version j.rails j.parts) (parts_text j.version (parts_of parts)) rest
    ∙ ap (λ z. front_text j.version j.rails j.parts ++ z) (ap (λ w. parts_text w (parts_of parts) ++ rest) same ∙ sym h.text) in
    let next : number ≡ 1 + feeds (before (Outside (record { version = j.version; rails = j.rails; parts = j.parts ++ parts_of parts }))) =
    (let count = h.number_is in
    let all = ap feeds front in
    let own = ap (λ w. feeds (parts_text w (parts_of parts))) same in
    omega (arith, count, here, all, own, feeds-append (front_text j.version j.rails j.parts) (parts_text j.version (parts_of parts)))) in
    subst (λ z. IsRefused z r) text
    (stop other (record { version = j.version; rails = j.rails; parts = j.parts ++ parts_of parts })
    (record { rails = is.rails; parts = All-append (IsPart j.version) j.parts (parts_of parts) is.parts (subst (λ w. All (IsPart w) (parts_of parts)) (sym same) h.each) }) same next)

pub more_behind : (v : Version) (bytes : List ℕ) (first : ℕ) (parts : List PartRead) (rest more : List ℕ) (number : ℕ) → PartsRead v bytes first parts rest number → rest ≡ codes "end\n" ++ more → more ≢ [] → IsRefusedBehind v bytes first (refusals.Trailing (number + 1))
more_behind v bytes first parts rest more number h e some =
    parts_refused v bytes first parts rest number (refusals.Trailing (number + 1)) h (outside_refused v rest number (refusals.Trailing (number + 1)) (refl, (more, e, some)))

pub all_parts : (v : Version) (bytes : List ℕ) (first : ℕ) (parts : List PartRead) (rest more : List ℕ) (number : ℕ) → PartsRead v bytes first parts rest number → rest ≡ codes "end\n" ++ more → more ≡ [] → AreParts v first bytes parts
all_parts v bytes first parts rest more number h e none = record { each = h.each; text = h.text ∙ ap (λ z. parts_text v (parts_of parts) ++ z) (e ∙ ap (λ z. codes "end\n" ++ z) none); lined = h.lined }

-- ---- the whole

feeds-head : (v : Version) (rails : ℕ) → first_number v ≡ 1 + feeds (head_text v rails)
unfolding head_text
feeds-head One rails = refl
feeds-head Two rails =
    let digits = feeds-none (decimal rails) (Without-decimal 10 rails (inl (omega arith))) in
    let all = feeds-append (decimal rails) (codes "\n") in
    omega (arith, digits, all)

length-head : (v : Version) (rails : ℕ) → first_number v ≤ 1 + length (head_text v rails)
length-head v rails = let few = feeds_few (head_text v rails) in let count = feeds-head v rails in omega (arith, few, count)

pub head_room : (v : Version) (rails : ℕ) (bytes rest last : List ℕ) → bytes ≡ title_text v ++ rest → title_text v ++ rest ≡ head_text v rails ++ last → length bytes ≤ 536870912 → first_number v + length last ≤ 536870913
head_room v rails bytes rest last e f few =
    let long = ap length (e ∙ f) in
    let room = length-head v rails in
    omega (arith, long, room, few, length-append (head_text v rails) last)

pub rails_refused : (v : Version) (bytes rest : List ℕ) (r : JournalRefusal) → bytes ≡ title_text v ++ rest → IsRefused (title_text v ++ rest) r → IsRefused bytes r
rails_refused v bytes rest r e h = subst (λ z. IsRefused z r) (sym e) h

pub begun_refused : (v : Version) (rails : ℕ) (text last : List ℕ) (first : ℕ) (r : JournalRefusal) → AreRails v rails → text ≡ head_text v rails ++ last → first ≡ first_number v → IsRefusedBehind v last first r → r ≢ refusals.NoMemory → IsRefused text r
begun_refused v rails text last first r is e n stop other =
    let front : front_text v rails [] ≡ head_text v rails = front-none v rails in
    subst (λ z. IsRefused z r) (ap (λ z. z ++ last) front ∙ sym e)
    (stop other (empty v rails) (record { rails = is; parts = All-nil (IsPart v) }) refl (n ∙ feeds-head v rails ∙ ap (λ z. 1 + feeds z) (sym front)))

pub begun_read : (v : Version) (rails : ℕ) (parts : List PartRead) (text last : List ℕ) (first : ℕ) → AreRails v rails → text ≡ head_text v rails ++ last → first ≡ first_number v → AreParts v first last parts
    → IsJournal (record { version = v; rails = rails; parts = parts_of parts }) × (text ≡ journal_text (record { version = v; rails = rails; parts = parts_of parts })) × AreLined v (1 + feeds (head_text v rails)) parts
unfolding journal_text front_text
begun_read v rails parts text last first is e n all = (
  record { rails = is; parts = all.each },
  e ∙ ap (λ z. head_text v rails ++ z) all.text ∙ sym (append_assoc (head_text v rails) (parts_text v (parts_of parts)) (codes "end\n")),
  subst (λ (z : ℕ). AreLined v z parts) (n ∙ feeds-head v rails) all.lined,
)
