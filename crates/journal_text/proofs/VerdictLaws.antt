-- What the first faulty line is refused for: one thing, and something.
use Rattle.std.proofs.Common.{◌≡◌, ◌≢◌, ℕ, ◌+◌, ◌≤◌, ◌⊎◌, inl, inr, List, [], ◌∷◌, ◌++◌, length, refl, sym, ap, ◌∙◌, subst, arith, append_assoc, length-append, codes}
use Rattle.lattice_grid.specs.Rectangle.{Size}
use Rattle.report_text.specs.Bounds.{IsBlock}
use Rattle.report_text.specs.Expected.{IsForm, IsHeading}
use Rattle.report_text.specs.Form.{form_of, Has}
use Rattle.report_text.specs.Pieces.{Without, Cuts, words}
use Rattle.report_text.specs.Reading.{IsBlockFault}
use Rattle.report_text.specs.Report.{BlockParts, HeadingParts, heading_words, heading_of, block_text}
use Rattle.report_text.specs.declared.answer.Answer.{Answer}
use Rattle.report_text.specs.declared.answer.Answer.TheVariants as answers
use Rattle.report_text.specs.declared.answer.Version.{Version}
use Rattle.report_text.specs.declared.answer.Version.TheVariants as versions
use Rattle.report_text.specs.declared.block.BlockFault.{BlockFault}
use Rattle.report_text.specs.declared.block.BlockFault.TheVariants as faults
use Rattle.report_text.specs.declared.form.Form.{Form}
use Rattle.report_text.specs.declared.form.Form.TheVariants.{Found, Minimum, Undecided, Mapped, NoneMapped, MapUndecided, NoRails}
use Rattle.report_text.proofs.Tools.{one_fault, block_apart, some_block, feed_or_none, headings, heading_of_block, same_cut, no_cut, Without-literal, Tested, tested_list}
use Rattle.journal_text.specs.Bounds.{MayStand}
use Rattle.journal_text.specs.Lines.{IsLead, refusal_for}
use Rattle.journal_text.specs.Reading.{first_word, IsTitleLine, IsRailsLine, IsQuestionLine, IsClosingLine, IsStepLine, TellsFound, Next, IsBadTitle, AreBadRails, IsBadWord, IsAstray, IsBadQuestion, IsBadStep, IsAnswerFault, IsBadAnswer, HasMore, Halts}
use Rattle.journal_text.specs.Reading.Next.{Title, RailsLine, PartOrEnd, StepOrClose}
use Rattle.journal_text.specs.declared.lead.Lead.{Lead}
use Rattle.journal_text.specs.declared.lead.Lead.TheVariants as leads
use Rattle.journal_text.specs.declared.refusal.JournalRefusal.{JournalRefusal}
use Rattle.journal_text.specs.declared.refusal.JournalRefusal.TheVariants as refusals
use Rattle.journal_text.proofs.RunLaws.{Item, item_text, Allowed, Begins, begins, lead_for, Stuck, one_title, one_rails, one_question, one_close, one_step_line, at_front, answer_front}
use Rattle.journal_text.proofs.RunLaws.Item.{TitleItem, RailsItem, QuestionItem, StepItem, CloseItem, AnswerItem}
use Rattle.journal_text.proofs.WordsLaws.{some_lead, one_lead, tested_question_line, tested_closing_line, tested_rails_line, tested_title_line, tested_step_line}

-- ---- what is said of a faulty line

-- by what must come and what the first word says
abbrev pub Says : Next → Lead → List ℕ → List ℕ → List ℕ → ℕ → JournalRefusal → Type 0
Says Title lead bytes line rest here r = (IsTitleLine line → ⊥) × (r ≡ refusals.Header here)
Says RailsLine lead bytes line rest here r = (IsRailsLine line → ⊥) × (r ≡ refusals.Rails here)
Says (PartOrEnd v) leads.Unknown bytes line rest here r = r ≡ refusals.Word here
Says (PartOrEnd v) leads.Number bytes line rest here r = r ≡ refusals.Order here
Says (PartOrEnd v) leads.Closing bytes line rest here r = r ≡ refusals.Order here
Says (PartOrEnd v) leads.Question bytes line rest here r = (IsQuestionLine line → ⊥) × (r ≡ refusals.Question here)
Says (PartOrEnd v) leads.Output bytes line rest here r = (fault : BlockFault) × IsAnswerFault v line bytes here fault × (r ≡ refusal_for fault)
Says (PartOrEnd v) leads.End bytes line rest here r = ((line ≢ codes "end") × (r ≡ refusals.Question here)) ⊎ ((line ≡ codes "end") × (rest ≢ []) × (r ≡ refusals.Trailing (here + 1)))
Says (StepOrClose v) leads.Unknown bytes line rest here r = r ≡ refusals.Word here
Says (StepOrClose v) leads.Number bytes line rest here r = (IsStepLine line → ⊥) × (r ≡ refusals.Step here)
Says (StepOrClose v) leads.Closing bytes line rest here r = (IsClosingLine line → ⊥) × (r ≡ refusals.Question here)
Says (StepOrClose v) leads.Question bytes line rest here r = r ≡ refusals.Order here
Says (StepOrClose v) leads.Output bytes line rest here r = r ≡ refusals.Order here
Says (StepOrClose v) leads.End bytes line rest here r = r ≡ refusals.Order here

pub record Verdict (n : Next) (bytes : List ℕ) (here : ℕ) (r : JournalRefusal) : Type 0 where
  pub line : List ℕ
  pub rest : List ℕ
  pub cut : Cuts 10 bytes line rest
  pub lead : Lead
  pub is_lead : IsLead lead (first_word line)
  pub says : Says n lead bytes line rest here r

-- no line stands there, or it is refused
abbrev pub Judged : Next → List ℕ → ℕ → JournalRefusal → Type 0
Judged n bytes here r = (Without 10 bytes × (r ≡ refusals.Truncated here)) ⊎ Verdict n bytes here r

verdict : (n : Next) (bytes line rest : List ℕ) (here : ℕ) (r : JournalRefusal) (lead : Lead) → Cuts 10 bytes line rest → IsLead lead (first_word line) → Says n lead bytes line rest here r → Judged n bytes here r
verdict n bytes line rest here r lead cut is says = inr (record { line = line; rest = rest; cut = cut; lead = lead; is_lead = is; says = says })

-- where the lead does not matter
title_verdict : (bytes line rest : List ℕ) (here : ℕ) (r : JournalRefusal) → Cuts 10 bytes line rest → (IsTitleLine line → ⊥) → r ≡ refusals.Header here → Judged Title bytes here r
title_verdict bytes line rest here r cut none e = let found = some_lead (first_word line) in verdict Title bytes line rest here r found.0 cut found.1 (none, e)

rails_verdict : (bytes line rest : List ℕ) (here : ℕ) (r : JournalRefusal) → Cuts 10 bytes line rest → (IsRailsLine line → ⊥) → r ≡ refusals.Rails here → Judged RailsLine bytes here r
rails_verdict bytes line rest here r cut none e = let found = some_lead (first_word line) in verdict RailsLine bytes line rest here r found.0 cut found.1 (none, e)

judge_header : (n : Next) (bytes line rest : List ℕ) (here m : ℕ) → m ≡ here → Cuts 10 bytes line rest → IsBadTitle n line → Judged n bytes here (refusals.Header m)
judge_header Title bytes line rest here m e cut bad = title_verdict bytes line rest here (refusals.Header m) cut bad (ap refusals.Header e)
judge_header RailsLine bytes line rest here m e cut bad = absurd bad
judge_header (PartOrEnd v) bytes line rest here m e cut bad = absurd bad
judge_header (StepOrClose v) bytes line rest here m e cut bad = absurd bad

judge_rails : (n : Next) (bytes line rest : List ℕ) (here m : ℕ) → m ≡ here → Cuts 10 bytes line rest → AreBadRails n line → Judged n bytes here (refusals.Rails m)
judge_rails Title bytes line rest here m e cut bad = absurd bad
judge_rails RailsLine bytes line rest here m e cut bad = rails_verdict bytes line rest here (refusals.Rails m) cut bad (ap refusals.Rails e)
judge_rails (PartOrEnd v) bytes line rest here m e cut bad = absurd bad
judge_rails (StepOrClose v) bytes line rest here m e cut bad = absurd bad

judge_word : (n : Next) (bytes line rest : List ℕ) (here m : ℕ) → m ≡ here → Cuts 10 bytes line rest → IsBadWord n line → Judged n bytes here (refusals.Word m)
judge_word Title bytes line rest here m e cut bad = absurd bad
judge_word RailsLine bytes line rest here m e cut bad = absurd bad
judge_word (PartOrEnd v) bytes line rest here m e cut bad = verdict (PartOrEnd v) bytes line rest here (refusals.Word m) leads.Unknown cut bad (ap refusals.Word e)
judge_word (StepOrClose v) bytes line rest here m e cut bad = verdict (StepOrClose v) bytes line rest here (refusals.Word m) leads.Unknown cut bad (ap refusals.Word e)

judge_order : (n : Next) (bytes line rest : List ℕ) (here m : ℕ) → m ≡ here → Cuts 10 bytes line rest → IsAstray n line → Judged n bytes here (refusals.Order m)
judge_order Title bytes line rest here m e cut bad = absurd bad
judge_order RailsLine bytes line rest here m e cut bad = absurd bad
judge_order (PartOrEnd v) bytes line rest here m e cut (inl number) = verdict (PartOrEnd v) bytes line rest here (refusals.Order m) leads.Number cut number (ap refusals.Order e)
judge_order (PartOrEnd v) bytes line rest here m e cut (inr closing) = verdict (PartOrEnd v) bytes line rest here (refusals.Order m) leads.Closing cut closing (ap refusals.Order e)
judge_order (StepOrClose v) bytes line rest here m e cut (inl w) = verdict (StepOrClose v) bytes line rest here (refusals.Order m) leads.Question cut w (ap refusals.Order e)
judge_order (StepOrClose v) bytes line rest here m e cut (inr (inl w)) = verdict (StepOrClose v) bytes line rest here (refusals.Order m) leads.Output cut w (ap refusals.Order e)
judge_order (StepOrClose v) bytes line rest here m e cut (inr (inr w)) = verdict (StepOrClose v) bytes line rest here (refusals.Order m) leads.End cut w (ap refusals.Order e)

judge_question : (n : Next) (bytes line rest : List ℕ) (here m : ℕ) → m ≡ here → Cuts 10 bytes line rest → IsBadQuestion n line → Judged n bytes here (refusals.Question m)
judge_question Title bytes line rest here m e cut bad = absurd bad
judge_question RailsLine bytes line rest here m e cut bad = absurd bad
judge_question (PartOrEnd v) bytes line rest here m e cut (inl (w, none)) = verdict (PartOrEnd v) bytes line rest here (refusals.Question m) leads.Question cut w (none, ap refusals.Question e)
judge_question (PartOrEnd v) bytes line rest here m e cut (inr (w, other)) = verdict (PartOrEnd v) bytes line rest here (refusals.Question m) leads.End cut w (inl (other, ap refusals.Question e))
judge_question (StepOrClose v) bytes line rest here m e cut (w, none) = verdict (StepOrClose v) bytes line rest here (refusals.Question m) leads.Closing cut w (none, ap refusals.Question e)

judge_step : (n : Next) (bytes line rest : List ℕ) (here m : ℕ) → m ≡ here → Cuts 10 bytes line rest → IsBadStep n line → Judged n bytes here (refusals.Step m)
judge_step Title bytes line rest here m e cut bad = absurd bad
judge_step RailsLine bytes line rest here m e cut bad = absurd bad
judge_step (PartOrEnd v) bytes line rest here m e cut bad = absurd bad
judge_step (StepOrClose v) bytes line rest here m e cut (w, none) = verdict (StepOrClose v) bytes line rest here (refusals.Step m) leads.Number cut w (none, ap refusals.Step e)

judge_answer : (n : Next) (bytes line rest : List ℕ) (here : ℕ) (fault : BlockFault) → Cuts 10 bytes line rest → IsBadAnswer n bytes here fault line → Judged n bytes here (refusal_for fault)
judge_answer Title bytes line rest here fault cut bad = absurd bad
judge_answer RailsLine bytes line rest here fault cut bad = absurd bad
judge_answer (PartOrEnd v) bytes line rest here fault cut (w, bad) = verdict (PartOrEnd v) bytes line rest here (refusal_for fault) leads.Output cut w (fault, bad, refl)
judge_answer (StepOrClose v) bytes line rest here fault cut bad = absurd bad

cut_end : (more : List ℕ) → Cuts 10 (codes "end\n" ++ more) (codes "end") more
cut_end more = record { text = refl; first = Without-literal 10 (codes "end") refl }

judge_more : (n : Next) (bytes : List ℕ) (here m : ℕ) → m ≡ here + 1 → HasMore n bytes → Judged n bytes here (refusals.Trailing m)
judge_more Title bytes here m e bad = absurd bad
judge_more RailsLine bytes here m e bad = absurd bad
judge_more (PartOrEnd v) bytes here m e (more, f, some) =
    verdict (PartOrEnd v) bytes (codes "end") more here (refusals.Trailing m) leads.End (subst (λ z. Cuts 10 z (codes "end") more) (sym f) (cut_end more)) refl (inr (refl, some, ap refusals.Trailing e))
judge_more (StepOrClose v) bytes here m e bad = absurd bad

pub judged : (n : Next) (bytes : List ℕ) (here : ℕ) (r : JournalRefusal) → Halts n bytes here r → Judged n bytes here r
judged n bytes here (refusals.Header m) (e, (line, rest, cut, bad)) = judge_header n bytes line rest here m e cut bad
judged n bytes here (refusals.Rails m) (e, (line, rest, cut, bad)) = judge_rails n bytes line rest here m e cut bad
judged n bytes here (refusals.Word m) (e, (line, rest, cut, bad)) = judge_word n bytes line rest here m e cut bad
judged n bytes here (refusals.Order m) (e, (line, rest, cut, bad)) = judge_order n bytes line rest here m e cut bad
judged n bytes here (refusals.Question m) (e, (line, rest, cut, bad)) = judge_question n bytes line rest here m e cut bad
judged n bytes here (refusals.Step m) (e, (line, rest, cut, bad)) = judge_step n bytes line rest here m e cut bad
judged n bytes here (refusals.Block m) (inl (line, rest, cut, bad)) = judge_answer n bytes line rest here (faults.Block m) cut bad
judged n bytes here (refusals.Block m) (inr (line, rest, cut, bad)) = judge_answer n bytes line rest here (faults.Grid m) cut bad
judged n bytes here (refusals.Proofs m) (line, rest, cut, bad) = judge_answer n bytes line rest here (faults.Proofs m) cut bad
judged n bytes here (refusals.Trailing m) (e, more) = judge_more n bytes here m e more
judged n bytes here (refusals.Truncated m) (inl (e, none)) = inl (none, ap refusals.Truncated e)
judged n bytes here (refusals.Truncated m) (inr (line, rest, cut, bad)) = judge_answer n bytes line rest here (faults.Truncated m) cut bad
judged n bytes here refusals.NoMemory h = absurd h

-- ---- one refusal

one_answer_fault : (v : Version) (bytes line : List ℕ) (here : ℕ) (d e : BlockFault) → IsAnswerFault v line bytes here d → IsAnswerFault v line bytes here e → d ≡ e
one_answer_fault v bytes line here d e (inl x) (inl y) = x.1 ∙ sym y.1
one_answer_fault v bytes line here d e (inl x) (inr y) = absurd (y.0 x.0)
one_answer_fault v bytes line here d e (inr x) (inl y) = absurd (x.0 y.0)
one_answer_fault v bytes line here d e (inr x) (inr y) = one_fault v bytes here d e x.1 y.1

one_saying : (n : Next) (lead : Lead) (bytes line rest : List ℕ) (here : ℕ) (d e : JournalRefusal) → Says n lead bytes line rest here d → Says n lead bytes line rest here e → d ≡ e
one_saying Title lead bytes line rest here d e x y = x.1 ∙ sym y.1
one_saying RailsLine lead bytes line rest here d e x y = x.1 ∙ sym y.1
one_saying (PartOrEnd v) leads.Unknown bytes line rest here d e x y = x ∙ sym y
one_saying (PartOrEnd v) leads.Number bytes line rest here d e x y = x ∙ sym y
one_saying (PartOrEnd v) leads.Closing bytes line rest here d e x y = x ∙ sym y
one_saying (PartOrEnd v) leads.Question bytes line rest here d e x y = x.1 ∙ sym y.1
one_saying (PartOrEnd v) leads.Output bytes line rest here d e (f, x, p) (g, y, q) = p ∙ ap refusal_for (one_answer_fault v bytes line here f g x y) ∙ sym q
one_saying (PartOrEnd v) leads.End bytes line rest here d e (inl x) (inl y) = x.1 ∙ sym y.1
one_saying (PartOrEnd v) leads.End bytes line rest here d e (inl x) (inr y) = absurd (x.0 y.0)
one_saying (PartOrEnd v) leads.End bytes line rest here d e (inr x) (inl y) = absurd (y.0 x.0)
one_saying (PartOrEnd v) leads.End bytes line rest here d e (inr x) (inr y) = x.2 ∙ sym y.2
one_saying (StepOrClose v) leads.Unknown bytes line rest here d e x y = x ∙ sym y
one_saying (StepOrClose v) leads.Number bytes line rest here d e x y = x.1 ∙ sym y.1
one_saying (StepOrClose v) leads.Closing bytes line rest here d e x y = x.1 ∙ sym y.1
one_saying (StepOrClose v) leads.Question bytes line rest here d e x y = x ∙ sym y
one_saying (StepOrClose v) leads.Output bytes line rest here d e x y = x ∙ sym y
one_saying (StepOrClose v) leads.End bytes line rest here d e x y = x ∙ sym y

same_verdict : (n : Next) (bytes : List ℕ) (here : ℕ) (d e : JournalRefusal) → Verdict n bytes here d → Verdict n bytes here e → d ≡ e
same_verdict n bytes here d e x y =
    let cut = same_cut 10 x.line y.line x.rest y.rest x.cut.first y.cut.first (sym x.cut.text ∙ y.cut.text) in
    let lead = one_lead (first_word y.line) x.lead y.lead (subst (λ z. IsLead x.lead (first_word z)) cut.0 x.is_lead) y.is_lead in
    one_saying n y.lead bytes y.line y.rest here d e
    (subst (λ z. Says n z bytes y.line y.rest here d) lead (subst (λ z. Says n x.lead bytes y.line z here d) cut.1 (subst (λ z. Says n x.lead bytes z x.rest here d) cut.0 x.says))) y.says

one_judgement : (n : Next) (bytes : List ℕ) (here : ℕ) (d e : JournalRefusal) → Judged n bytes here d → Judged n bytes here e → d ≡ e
one_judgement n bytes here d e (inl x) (inl y) = x.1 ∙ sym y.1
one_judgement n bytes here d e (inl x) (inr y) = absurd (no_cut 10 bytes y.line y.rest x.0 y.cut.text)
one_judgement n bytes here d e (inr x) (inl y) = absurd (no_cut 10 bytes x.line x.rest y.0 x.cut.text)
one_judgement n bytes here d e (inr x) (inr y) = same_verdict n bytes here d e x y

pub one_halt : (n : Next) (bytes : List ℕ) (here : ℕ) (d e : JournalRefusal) → Halts n bytes here d → Halts n bytes here e → d ≡ e
one_halt n bytes here d e x y = one_judgement n bytes here d e (judged n bytes here d x) (judged n bytes here e y)

-- ---- where a line is refused nothing goes on

found_form : (a : Answer) (s : Size) → MayStand a → form_of a ≡ Found s → ⊥
found_form (answers.Found g) s may e = may
found_form (answers.Minimum g) s may e = cc
found_form (answers.Undecided g l at n) s may e = cc
found_form (answers.Mapped g a) s may e = cc
found_form (answers.NoneMapped a) s may e = cc
found_form (answers.MapUndecided a n) s may e = cc
found_form (answers.NoRails x y) s may e = cc

has_found : (v : Version) (s : Size) → Has v (Found s)
has_found versions.One s = tt
has_found versions.Two s = tt

found_heading : (v : Version) (line : List ℕ) (h : TellsFound line) → IsHeading v (record { output = h.output; name = h.name; form = Found h.size })
found_heading v line h = record { output = h.few; name = h.is_name; form = h.is_size; has = has_found v h.size }

-- a line with the words of an answer that may stand does not tell what was found
not_found : (v : Version) (line : List ℕ) (b : BlockParts) → IsBlock v b → MayStand b.answer → words line ≡ heading_words (heading_of b) → TellsFound line → ⊥
not_found v line b is may e h =
    let same = (headings v).same (heading_of b) (record { output = h.output; name = h.name; form = Found h.size }) (heading_of_block v b is) (found_heading v line h) (sym e ∙ h.words_are) in
    found_form b.answer h.size may (ap (λ z. z.form) same)

first_line : (i : Item) (bytes line rest behind : List ℕ) (b : Begins i) → Cuts 10 bytes line rest → bytes ≡ item_text i ++ behind → line ≡ b.line
first_line i bytes line rest behind b cut e =
    (same_cut 10 line b.line rest (b.more ++ behind) cut.first b.one_line (sym cut.text ∙ e ∙ ap (λ z. z ++ behind) b.text ∙ append_assoc b.line (10 ∷ b.more) behind)).0

-- the first word of the bytes is that of the item
lead_here : (v : Version) (i : Item) (bytes line rest behind : List ℕ) (lead : Lead) → Allowed (PartOrEnd v) i ⊎ Allowed (StepOrClose v) i → Cuts 10 bytes line rest → IsLead lead (first_word line) → bytes ≡ item_text i ++ behind → lead ≡ lead_for i
lead_here v i bytes line rest behind lead a cut is e =
    let b = begins v i a in
    one_lead (first_word line) lead (lead_for i) is (subst (λ z. IsLead (lead_for i) (first_word z)) (sym (first_line i bytes line rest behind b cut e)) b.lead)

stuck_part : (v : Version) (bytes : List ℕ) (here : ℕ) (r : JournalRefusal) (x : Verdict (PartOrEnd v) bytes here r) → Stuck (PartOrEnd v) bytes
stuck_part v bytes here r x (TitleItem w) behind a e = a
stuck_part v bytes here r x (RailsItem n) behind a e = a
stuck_part v bytes here r x (QuestionItem n t) behind a e =
    let lead = lead_here v (QuestionItem n t) bytes x.line x.rest behind x.lead (inl a) x.cut x.is_lead e in
    let says = subst (λ z. Says (PartOrEnd v) z bytes x.line x.rest here r) lead x.says in
    says.0 (n, t, a.0, a.1, (at_front (QuestionItem n t) bytes x.line x.rest behind (one_question n t a) x.cut e).0)
stuck_part v bytes here r x (StepItem s) behind a e = a
stuck_part v bytes here r x (CloseItem c) behind a e = a
stuck_part v bytes here r x (AnswerItem w b) behind a e =
    let text : bytes ≡ block_text v b ++ behind = e ∙ ap (λ z. block_text z b ++ behind) a.0 in
    let lead = lead_here v (AnswerItem w b) bytes x.line x.rest behind x.lead (inl a) x.cut x.is_lead e in
    let says = subst (λ z. Says (PartOrEnd v) z bytes x.line x.rest here r) lead x.says in
    by says.0 text says.1 where
      by : (fault : BlockFault) → bytes ≡ block_text v b ++ behind → IsAnswerFault v x.line bytes here fault → ⊥
      by fault text (inl f) = not_found v x.line b a.1 a.2 (answer_front v b bytes x.line x.rest behind a.1 x.cut text) f.0
      by fault text (inr f) = block_apart v bytes here b behind fault (record { is_block = a.1; text = text }) f.1

stuck_inner : (v : Version) (bytes : List ℕ) (here : ℕ) (r : JournalRefusal) (x : Verdict (StepOrClose v) bytes here r) → Stuck (StepOrClose v) bytes
stuck_inner v bytes here r x (TitleItem w) behind a e = a
stuck_inner v bytes here r x (RailsItem n) behind a e = a
stuck_inner v bytes here r x (QuestionItem n t) behind a e = a
stuck_inner v bytes here r x (StepItem s) behind a e =
    let lead = lead_here v (StepItem s) bytes x.line x.rest behind x.lead (inr a) x.cut x.is_lead e in
    let says = subst (λ z. Says (StepOrClose v) z bytes x.line x.rest here r) lead x.says in
    says.0 (s, a, record { is_step = a.is_step; text = (at_front (StepItem s) bytes x.line x.rest behind (one_step_line s) x.cut e).0 })
stuck_inner v bytes here r x (CloseItem c) behind a e =
    let lead = lead_here v (CloseItem c) bytes x.line x.rest behind x.lead (inr a) x.cut x.is_lead e in
    let says = subst (λ z. Says (StepOrClose v) z bytes x.line x.rest here r) lead x.says in
    says.0 (c, a, (at_front (CloseItem c) bytes x.line x.rest behind (one_close c a) x.cut e).0)
stuck_inner v bytes here r x (AnswerItem w b) behind a e = a

stuck_title : (bytes : List ℕ) (here : ℕ) (r : JournalRefusal) (x : Verdict Title bytes here r) → Stuck Title bytes
stuck_title bytes here r x (TitleItem w) behind a e = x.says.0 (w, (at_front (TitleItem w) bytes x.line x.rest behind (one_title w) x.cut e).0)
stuck_title bytes here r x (RailsItem n) behind a e = a
stuck_title bytes here r x (QuestionItem n t) behind a e = a
stuck_title bytes here r x (StepItem s) behind a e = a
stuck_title bytes here r x (CloseItem c) behind a e = a
stuck_title bytes here r x (AnswerItem w b) behind a e = a

stuck_rails : (bytes : List ℕ) (here : ℕ) (r : JournalRefusal) (x : Verdict RailsLine bytes here r) → Stuck RailsLine bytes
stuck_rails bytes here r x (TitleItem w) behind a e = a
stuck_rails bytes here r x (RailsItem n) behind a e = x.says.0 (n, a, (at_front (RailsItem n) bytes x.line x.rest behind (one_rails n a) x.cut e).0)
stuck_rails bytes here r x (QuestionItem n t) behind a e = a
stuck_rails bytes here r x (StepItem s) behind a e = a
stuck_rails bytes here r x (CloseItem c) behind a e = a
stuck_rails bytes here r x (AnswerItem w b) behind a e = a

stuck_verdict : (n : Next) (bytes : List ℕ) (here : ℕ) (r : JournalRefusal) → Verdict n bytes here r → Stuck n bytes
stuck_verdict Title bytes here r x = stuck_title bytes here r x
stuck_verdict RailsLine bytes here r x = stuck_rails bytes here r x
stuck_verdict (PartOrEnd v) bytes here r x = stuck_part v bytes here r x
stuck_verdict (StepOrClose v) bytes here r x = stuck_inner v bytes here r x

-- an item has a line feed
has_feed : (n : Next) (i : Item) → Allowed n i → (line : List ℕ) × (more : List ℕ) × (item_text i ≡ line ++ 10 ∷ more)
has_feed Title (TitleItem w) a = let one = one_title w in (one.line, [], one.text)
has_feed Title (RailsItem n) a = absurd a
has_feed Title (QuestionItem n t) a = absurd a
has_feed Title (StepItem s) a = absurd a
has_feed Title (CloseItem c) a = absurd a
has_feed Title (AnswerItem w b) a = absurd a
has_feed RailsLine (TitleItem w) a = absurd a
has_feed RailsLine (RailsItem n) a = let one = one_rails n a in (one.line, [], one.text)
has_feed RailsLine (QuestionItem n t) a = absurd a
has_feed RailsLine (StepItem s) a = absurd a
has_feed RailsLine (CloseItem c) a = absurd a
has_feed RailsLine (AnswerItem w b) a = absurd a
has_feed (PartOrEnd v) i a = let b = begins v i (inl a) in (b.line, b.more, b.text)
has_feed (StepOrClose v) i a = let b = begins v i (inr a) in (b.line, b.more, b.text)

stuck_judged : (n : Next) (bytes : List ℕ) (here : ℕ) (r : JournalRefusal) → Judged n bytes here r → Stuck n bytes
stuck_judged n bytes here r (inl x) = λ i behind a e.
    let f = has_feed n i a in
    no_cut 10 bytes f.0 (f.1 ++ behind) x.0 (e ∙ ap (λ z. z ++ behind) f.2 ∙ append_assoc f.0 (10 ∷ f.1) behind)
stuck_judged n bytes here r (inr x) = stuck_verdict n bytes here r x

pub stuck_halts : (n : Next) (bytes : List ℕ) (here : ℕ) (r : JournalRefusal) → Halts n bytes here r → Stuck n bytes
stuck_halts n bytes here r h = stuck_judged n bytes here r (judged n bytes here r h)

-- neither does anything go on at the last line
pub stuck_end : (v : Version) (more : List ℕ) → Stuck (PartOrEnd v) (codes "end\n" ++ more)
stuck_end v more (TitleItem w) behind a e = a
stuck_end v more (RailsItem n) behind a e = a
stuck_end v more (QuestionItem n t) behind a e = let f = lead_here v (QuestionItem n t) (codes "end\n" ++ more) (codes "end") more behind leads.End (inl a) (cut_end more) refl e in cc
stuck_end v more (StepItem s) behind a e = a
stuck_end v more (CloseItem c) behind a e = a
stuck_end v more (AnswerItem w b) behind a e = let f = lead_here v (AnswerItem w b) (codes "end\n" ++ more) (codes "end") more behind leads.End (inl a) (cut_end more) refl e in cc

-- what is at its end is not refused
pub end_stands : (v : Version) (here : ℕ) (r : JournalRefusal) → Halts (PartOrEnd v) (codes "end\n") here r → ⊥
end_stands v here r h = by (judged (PartOrEnd v) (codes "end\n") here r h) where
  by : Judged (PartOrEnd v) (codes "end\n") here r → ⊥
  by (inl x) = no_cut 10 (codes "end\n") (codes "end") [] x.0 refl
  by (inr x) =
      let cut = same_cut 10 x.line (codes "end") x.rest [] x.cut.first (cut_end []).first (sym x.cut.text) in
      let lead = one_lead (first_word x.line) x.lead leads.End x.is_lead (ap first_word cut.0) in
      ended x.line x.rest cut.0 cut.1 (subst (λ z. Says (PartOrEnd v) z (codes "end\n") x.line x.rest here r) lead x.says) where
        ended : (line rest : List ℕ) → line ≡ codes "end" → rest ≡ [] → Says (PartOrEnd v) leads.End (codes "end\n") line rest here r → ⊥
        ended line rest e f (inl s) = s.0 e
        ended line rest e f (inr s) = s.1 f

-- ---- each line goes on, or is refused

-- the last line stands there, and nothing behind it
abbrev pub Ends : Next → List ℕ → Type 0
Ends Title bytes = ⊥
Ends RailsLine bytes = ⊥
Ends (PartOrEnd v) bytes = bytes ≡ codes "end\n"
Ends (StepOrClose v) bytes = ⊥

abbrev pub GoesOn : Next → List ℕ → Type 0
GoesOn n bytes = (i : Item) × (rest : List ℕ) × Allowed n i × (bytes ≡ item_text i ++ rest)

abbrev pub Decided : Next → List ℕ → ℕ → Type 0
Decided n bytes here = GoesOn n bytes ⊎ (Ends n bytes ⊎ ((r : JournalRefusal) × Halts n bytes here r))

goes : (n : Next) (bytes : List ℕ) (here : ℕ) (i : Item) (rest : List ℕ) → Allowed n i → bytes ≡ item_text i ++ rest → Decided n bytes here
goes n bytes here i rest a e = inl (i, rest, a, e)

stops : (n : Next) (bytes : List ℕ) (here : ℕ) (r : JournalRefusal) → Halts n bytes here r → Decided n bytes here
stops n bytes here r h = inr (inr (r, h))

pub behind_line : (bytes line rest text : List ℕ) → Cuts 10 bytes line rest → text ≡ line ++ 10 ∷ [] → bytes ≡ text ++ rest
behind_line bytes line rest text cut e = cut.text ∙ sym (append_assoc line (10 ∷ []) rest) ∙ ap (λ z. z ++ rest) (sym e)

pub tested_found : (v : Version) (line : List ℕ) → Tested (TellsFound line)
tested_found v line = elim ((headings v).tested (words line)) [
  | inl (h, is, e) ↦ by h.output h.name h.form is e
  | inr none ↦ inr (λ f. none (record { output = f.output; name = f.name; form = Found f.size }, found_heading v line f, f.words_are))
] where
  other : (h : HeadingParts) → IsHeading v h → words line ≡ heading_words h → ((s : Size) → h.form ≡ Found s → ⊥) → TellsFound line → ⊥
  other h is e not f = not f.size (ap (λ z. z.form) ((headings v).same h (record { output = f.output; name = f.name; form = Found f.size }) is (found_heading v line f) (sym e ∙ f.words_are)))

  by : (output : ℕ) (name : List ℕ) (form : Form) → IsHeading v (record { output = output; name = name; form = form }) → words line ≡ heading_words (record { output = output; name = name; form = form }) → Tested (TellsFound line)
  by output name (Found s) is e = inl (record { output = output; name = name; size = s; few = is.output; is_name = is.name; is_size = is.form; words_are = e })
  by output name (Minimum s) is e = inr (other _ is e (λ t f. absurd cc))
  by output name (Undecided s l at n) is e = inr (other _ is e (λ t f. absurd cc))
  by output name (Mapped a) is e = inr (other _ is e (λ t f. absurd cc))
  by output name (NoneMapped a) is e = inr (other _ is e (λ t f. absurd cc))
  by output name (MapUndecided a n) is e = inr (other _ is e (λ t f. absurd cc))
  by output name (NoRails x y) is e = inr (other _ is e (λ t f. absurd cc))

-- a fault of an answer is a refusal
pub answer_halts : (v : Version) (bytes line rest : List ℕ) (here : ℕ) (fault : BlockFault) → fault ≢ faults.NoMemory → Cuts 10 bytes line rest → first_word line ≡ codes "output" → IsAnswerFault v line bytes here fault → Halts (PartOrEnd v) bytes here (refusal_for fault)
answer_halts v bytes line rest here (faults.Block n) ne cut w f = inl (line, rest, cut, (w, f))
answer_halts v bytes line rest here (faults.Grid n) ne cut w f = inr (line, rest, cut, (w, f))
answer_halts v bytes line rest here (faults.Proofs n) ne cut w f = (line, rest, cut, (w, f))
answer_halts v bytes line rest here (faults.Truncated n) ne cut w f = inr (line, rest, cut, (w, f))
answer_halts v bytes line rest here faults.NoMemory ne cut w f = absurd (ne refl)

fault_other : (v : Version) (bytes : List ℕ) (here : ℕ) (fault : BlockFault) → IsBlockFault v bytes here fault → fault ≢ faults.NoMemory
fault_other v bytes here fault h e = subst (IsBlockFault v bytes here) e h

form_may : (a : Answer) → ((s : Size) → form_of a ≡ Found s → ⊥) → MayStand a
form_may (answers.Found g) none = none g.size refl
form_may (answers.Minimum g) none = tt
form_may (answers.Undecided g l at n) none = tt
form_may (answers.Mapped g a) none = tt
form_may (answers.NoneMapped a) none = tt
form_may (answers.MapUndecided a n) none = tt
form_may (answers.NoRails x y) none = tt

-- an answer whose first line does not tell what was found may stand
pub may_stand : (v : Version) (line : List ℕ) (b : BlockParts) → IsBlock v b → words line ≡ heading_words (heading_of b) → (TellsFound line → ⊥) → MayStand b.answer
may_stand v line b is e none = form_may b.answer (λ s f.
    let h = heading_of_block v b is in
    none (record {
      output = b.output;
      name = b.name;
      size = s;
      few = h.output;
      is_name = h.name;
      is_size = subst IsForm f h.form;
      words_are = e ∙ ap (λ z. heading_words (record { output = b.output; name = b.name; form = z })) f;
    }))

decide_answer : (v : Version) (bytes line rest : List ℕ) (here : ℕ) → Cuts 10 bytes line rest → first_word line ≡ codes "output" → Decided (PartOrEnd v) bytes here
decide_answer v bytes line rest here cut w = elim (tested_found v line) [
  | inl found ↦ stops (PartOrEnd v) bytes here (refusals.Block here) (inl (line, rest, cut, (w, inl (found, refl))))
  | inr none ↦ elim (some_block v bytes here) [
    | inl (b, behind, has) ↦
        goes (PartOrEnd v) bytes here (AnswerItem v b) behind (refl, has.is_block, may_stand v line b has.is_block (answer_front v b bytes line rest behind has.is_block cut has.text) none) has.text
    | inr (fault, f) ↦ stops (PartOrEnd v) bytes here (refusal_for fault) (answer_halts v bytes line rest here fault (fault_other v bytes here fault f) cut w (inr (none, f)))
  ]
]

more_or_none : (bytes : List ℕ) → (bytes ≡ []) ⊎ (bytes ≢ [])
more_or_none [] = inl refl
more_or_none (b ∷ bytes) = inr (λ e. absurd cc)

decide_end : (v : Version) (bytes line rest : List ℕ) (here : ℕ) → Cuts 10 bytes line rest → first_word line ≡ codes "end" → Decided (PartOrEnd v) bytes here
decide_end v bytes line rest here cut w = elim (tested_list line (codes "end")) [
  | inl e ↦ elim (more_or_none rest) [
    | inl none ↦ inr (inl (cut.text ∙ (λ i. e i ++ 10 ∷ none i)))
    | inr some ↦ stops (PartOrEnd v) bytes here (refusals.Trailing (here + 1)) (refl, (rest, cut.text ∙ ap (λ z. z ++ 10 ∷ rest) e, some))
  ]
  | inr other ↦ stops (PartOrEnd v) bytes here (refusals.Question here) (refl, (line, rest, cut, inr (w, other)))
]

decide_part : (v : Version) (bytes line rest : List ℕ) (here : ℕ) (lead : Lead) → Cuts 10 bytes line rest → IsLead lead (first_word line) → Decided (PartOrEnd v) bytes here
decide_part v bytes line rest here leads.Question cut w = elim (tested_question_line line) [
  | inl (n, t, few, is, e) ↦ goes (PartOrEnd v) bytes here (QuestionItem n t) rest (few, is) (behind_line bytes line rest _ cut e)
  | inr none ↦ stops (PartOrEnd v) bytes here (refusals.Question here) (refl, (line, rest, cut, inl (w, none)))
]
decide_part v bytes line rest here leads.Closing cut w = stops (PartOrEnd v) bytes here (refusals.Order here) (refl, (line, rest, cut, inr w))
decide_part v bytes line rest here leads.Output cut w = decide_answer v bytes line rest here cut w
decide_part v bytes line rest here leads.End cut w = decide_end v bytes line rest here cut w
decide_part v bytes line rest here leads.Number cut w = stops (PartOrEnd v) bytes here (refusals.Order here) (refl, (line, rest, cut, inl w))
decide_part v bytes line rest here leads.Unknown cut w = stops (PartOrEnd v) bytes here (refusals.Word here) (refl, (line, rest, cut, w))

decide_inner : (v : Version) (bytes line rest : List ℕ) (here : ℕ) (lead : Lead) → Cuts 10 bytes line rest → IsLead lead (first_word line) → Decided (StepOrClose v) bytes here
decide_inner v bytes line rest here leads.Question cut w = stops (StepOrClose v) bytes here (refusals.Order here) (refl, (line, rest, cut, inl w))
decide_inner v bytes line rest here leads.Closing cut w = elim (tested_closing_line line) [
  | inl (c, is, e) ↦ goes (StepOrClose v) bytes here (CloseItem c) rest is (behind_line bytes line rest _ cut e)
  | inr none ↦ stops (StepOrClose v) bytes here (refusals.Question here) (refl, (line, rest, cut, (w, none)))
]
decide_inner v bytes line rest here leads.Output cut w = stops (StepOrClose v) bytes here (refusals.Order here) (refl, (line, rest, cut, inr (inl w)))
decide_inner v bytes line rest here leads.End cut w = stops (StepOrClose v) bytes here (refusals.Order here) (refl, (line, rest, cut, inr (inr w)))
decide_inner v bytes line rest here leads.Number cut w = elim (tested_step_line line) [
  | inl (s, is, e) ↦ goes (StepOrClose v) bytes here (StepItem s) rest is (behind_line bytes line rest _ cut e.text)
  | inr none ↦ stops (StepOrClose v) bytes here (refusals.Step here) (refl, (line, rest, cut, (w, none)))
]
decide_inner v bytes line rest here leads.Unknown cut w = stops (StepOrClose v) bytes here (refusals.Word here) (refl, (line, rest, cut, w))

decide_line : (n : Next) (bytes line rest : List ℕ) (here : ℕ) → Cuts 10 bytes line rest → Decided n bytes here
decide_line Title bytes line rest here cut = elim (tested_title_line line) [
  | inl (v, e) ↦ goes Title bytes here (TitleItem v) rest tt (behind_line bytes line rest _ cut e)
  | inr none ↦ stops Title bytes here (refusals.Header here) (refl, (line, rest, cut, none))
]
decide_line RailsLine bytes line rest here cut = elim (tested_rails_line line) [
  | inl (n, few, e) ↦ goes RailsLine bytes here (RailsItem n) rest few (behind_line bytes line rest _ cut e)
  | inr none ↦ stops RailsLine bytes here (refusals.Rails here) (refl, (line, rest, cut, none))
]
decide_line (PartOrEnd v) bytes line rest here cut = let found = some_lead (first_word line) in decide_part v bytes line rest here found.0 cut found.1
decide_line (StepOrClose v) bytes line rest here cut = let found = some_lead (first_word line) in decide_inner v bytes line rest here found.0 cut found.1

pub decide : (n : Next) (bytes : List ℕ) (here : ℕ) → Decided n bytes here
decide n bytes here = elim (feed_or_none bytes) [
  | inl none ↦ stops n bytes here (refusals.Truncated here) (inl (refl, none))
  | inr (line, rest, cut) ↦ decide_line n bytes line rest here cut
]

-- an item has a byte
pub item_some : (n : Next) (i : Item) → Allowed n i → 1 ≤ length (item_text i)
item_some n i a = let f = has_feed n i a in let long = ap length f.2 in omega (arith, long, length-append f.0 (10 ∷ f.1))
