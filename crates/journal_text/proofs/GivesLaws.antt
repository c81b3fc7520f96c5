-- A text gives one answer, and gives some.
use Rattle.std.proofs.Common.{◌≡◌, ◌≢◌, ℕ, suc, zero, ◌+◌, ◌≤◌, ◌⊎◌, inl, inr, List, [], ◌∷◌, ◌++◌, length, refl, sym, ap, ◌∙◌, subst, arith, append_assoc, length-append, codes, Result, Ok, Err}
use Rattle.std.specs.Prelude.{MatchResult, IfOk, IfErr, IsErrOf}
use Rattle.report_text.specs.Pieces.{Cuts, feeds}
use Rattle.report_text.specs.Reading.{IsFaulty, IsBlockFault, AreBlockLines}
use Rattle.report_text.specs.Report.{Kind, Line, text_of}
use Rattle.report_text.specs.Report.Kind.{OfHeading, OfCells, OfProofs}
use Rattle.report_text.specs.declared.answer.Version.{Version}
use Rattle.report_text.specs.declared.block.BlockFault.{BlockFault}
use Rattle.report_text.specs.declared.block.BlockFault.TheVariants as faults
use Rattle.report_text.proofs.Tools.{feeds-append, feeds-none}
use Rattle.journal_text.specs.Bounds.{IsJournal}
use Rattle.journal_text.specs.Parts.{JournalParts, parts_of_journal}
use Rattle.journal_text.specs.Reading.{Place, before, IsPlace, Next, next_at, IsAnswerFault, IsBadAnswer, HasMore, HasLine, Halts, IsRefused, Gives, HasLineNumbers, seen}
use Rattle.journal_text.specs.Reading.Place.{AtTitle, AtRails, Outside, Inside}
use Rattle.journal_text.specs.Reading.Next.{Title, RailsLine, PartOrEnd, StepOrClose}
use Rattle.journal_text.specs.Text.{journal_text}
use Rattle.journal_text.specs.declared.journal.Journal.{Journal}
use Rattle.journal_text.specs.declared.refusal.JournalRefusal.{JournalRefusal}
use Rattle.journal_text.specs.declared.refusal.JournalRefusal.TheVariants as refusals
use Rattle.journal_text.proofs.RunLaws.{item_text, move, moved, one_place}
use Rattle.journal_text.proofs.VerdictLaws.{one_halt, stuck_halts, stuck_end, end_stands, Ends, decide, item_some}

-- a journal ends behind its parts
ended : (j : JournalParts) → journal_text j ≡ before (Outside j) ++ codes "end\n"
unfolding journal_text
ended j = refl

same_journal : (j k : JournalParts) → Outside j ≡ Outside k → j ≡ k
same_journal j k e = cc

one_journal : (text : List ℕ) (j k : JournalParts) → IsJournal j → IsJournal k → text ≡ journal_text j → text ≡ journal_text k → j ≡ k
one_journal text j k p q e f =
    same_journal j k (one_place text (Outside j) (Outside k) (codes "end\n") (codes "end\n") p q (e ∙ ended j) (f ∙ ended k) (stuck_end j.version []) (stuck_end k.version [])).0

-- at the end of a journal nothing is refused
end_or_refused : (j : JournalParts) (p : Place) (bytes : List ℕ) (r : JournalRefusal) → Outside j ≡ p → codes "end\n" ≡ bytes → Halts (next_at p) bytes (1 + feeds (before p)) r → ⊥
end_or_refused j p bytes r e f h =
    end_stands j.version (1 + feeds (before (Outside j))) r
    (subst (λ z. Halts (PartOrEnd j.version) z (1 + feeds (before (Outside j))) r) (sym f) (subst (λ z. Halts (next_at z) bytes (1 + feeds (before z)) r) (sym e) h))

journal_apart : (text : List ℕ) (j : JournalParts) (r : JournalRefusal) → IsJournal j → text ≡ journal_text j → IsRefused text r → ⊥
journal_apart text j r p e x =
    let found = one_place text (Outside j) x.place (codes "end\n") x.bytes p x.is_place (e ∙ ended j) x.text_is (stuck_end j.version []) (stuck_halts (next_at x.place) x.bytes (1 + feeds (before x.place)) r x.halts) in
    end_or_refused j x.place x.bytes r found.0 found.1 x.halts

one_refusal : (text : List ℕ) (d e : JournalRefusal) → IsRefused text d → IsRefused text e → d ≡ e
one_refusal text d e x y =
    let found = one_place text x.place y.place x.bytes y.bytes x.is_place y.is_place x.text_is y.text_is (stuck_halts (next_at x.place) x.bytes (1 + feeds (before x.place)) d x.halts)
    (stuck_halts (next_at y.place) y.bytes (1 + feeds (before y.place)) e y.halts) in
    one_halt (next_at y.place) y.bytes (1 + feeds (before y.place)) d e
    (subst (λ z. Halts (next_at y.place) z (1 + feeds (before y.place)) d) found.1 (subst (λ z. Halts (next_at z) x.bytes (1 + feeds (before z)) d) found.0 x.halts)) y.halts

pub one_answer : (text : List ℕ) (a b : Result JournalParts JournalRefusal) → Gives text a → Gives text b → a ≡ b
one_answer text (Ok j) (Ok k) x y = ap Ok (one_journal text j k x.0 y.0 x.1 y.1)
one_answer text (Ok j) (Err e) x y = absurd (journal_apart text j e x.0 x.1 y)
one_answer text (Err d) (Ok k) x y = absurd (journal_apart text k d y.0 y.1 x)
one_answer text (Err d) (Err e) x y = ap Err (one_refusal text d e x y)

-- ---- some answer

abbrev Given : List ℕ → Type 0
Given text = (given : Result JournalParts JournalRefusal) × Gives text given

whole : (text : List ℕ) (p : Place) (bytes : List ℕ) → IsPlace p → text ≡ before p ++ bytes → Ends (next_at p) bytes → Given text
whole text AtTitle bytes is e ends = absurd ends
whole text AtRails bytes is e ends = absurd ends
whole text (Outside j) bytes is e ends = (Ok j, (is, e ∙ ap (λ z. before (Outside j) ++ z) ends ∙ sym (ended j)))
whole text (Inside j n t ss) bytes is e ends = absurd ends

settled : (text : List ℕ) (p : Place) (bytes : List ℕ) → IsPlace p → text ≡ before p ++ bytes → Ends (next_at p) bytes ⊎ ((r : JournalRefusal) × Halts (next_at p) bytes (1 + feeds (before p)) r) → Given text
settled text p bytes is e (inl ends) = whole text p bytes is e ends
settled text p bytes is e (inr (r, halts)) = (Err r, record { place = p; bytes = bytes; is_place = is; text_is = e; halts = halts })

some_from : (fuel : ℕ) (text : List ℕ) (p : Place) (bytes : List ℕ) → IsPlace p → text ≡ before p ++ bytes → length bytes ≤ fuel → Given text
some_from zero text p bytes is e few = elim (decide (next_at p) bytes (1 + feeds (before p))) [
  | inl (i, rest, a, f) ↦ absurd (let some = item_some (next_at p) i a in let long = ap length f in omega (arith, some, long, few, length-append (item_text i) rest))
  | inr at ↦ settled text p bytes is e at
]
some_from (suc fuel) text p bytes is e few = elim (decide (next_at p) bytes (1 + feeds (before p))) [
  | inl (i, rest, a, f) ↦
      let next = moved p i is a in
      some_from fuel text (move p i) rest next.is_place
      (e ∙ ap (λ z. before p ++ z) f ∙ sym (append_assoc (before p) (item_text i) rest) ∙ ap (λ z. z ++ rest) (sym next.text))
      (let some = item_some (next_at p) i a in let long = ap length f in omega (arith, some, long, few, length-append (item_text i) rest))
  | inr at ↦ settled text p bytes is e at
]

pub some_answer : (text : List ℕ) → Given text
some_answer text = some_from (length text) text AtTitle text tt refl (omega arith)

-- ---- fronts of journals

faulty_longer : (Whole : List Line → Type 0) (kind : Kind) (bytes m : List ℕ) (first n : ℕ) → IsFaulty Whole kind bytes first n → IsFaulty Whole kind (bytes ++ m) first n
faulty_longer Whole kind bytes m first n x = record {
  front = x.front;
  next = x.next;
  other = x.other;
  rest = x.rest ++ m;
  comes = x.comes;
  kind_is = x.kind_is;
  text_is = ap (λ z. z ++ m) x.text_is ∙ append_assoc (text_of x.front) (x.other ++ 10 ∷ x.rest) m ∙ ap (λ z. text_of x.front ++ z) (append_assoc x.other (10 ∷ x.rest) m);
  one_line = x.one_line;
  in_none = x.in_none;
  number_is = x.number_is;
}

-- a fault that is not the end of the bytes
abbrev IsFirm : BlockFault → Type 0
IsFirm (faults.Block n) = Unit {0}
IsFirm (faults.Grid n) = Unit {0}
IsFirm (faults.Proofs n) = Unit {0}
IsFirm (faults.Truncated n) = ⊥
IsFirm faults.NoMemory = ⊥

block_longer : (v : Version) (bytes m : List ℕ) (first : ℕ) (fault : BlockFault) → IsFirm fault → IsBlockFault v bytes first fault → IsBlockFault v (bytes ++ m) first fault
block_longer v bytes m first (faults.Block n) firm x = faulty_longer (AreBlockLines v) OfHeading bytes m first n x
block_longer v bytes m first (faults.Grid n) firm x = faulty_longer (AreBlockLines v) OfCells bytes m first n x
block_longer v bytes m first (faults.Proofs n) firm x = faulty_longer (AreBlockLines v) OfProofs bytes m first n x
block_longer v bytes m first (faults.Truncated n) firm x = absurd firm
block_longer v bytes m first faults.NoMemory firm x = absurd firm

answer_longer : (v : Version) (line bytes m : List ℕ) (here : ℕ) (fault : BlockFault) → IsFirm fault → IsAnswerFault v line bytes here fault → IsAnswerFault v line (bytes ++ m) here fault
answer_longer v line bytes m here fault firm (inl x) = inl x
answer_longer v line bytes m here fault firm (inr x) = inr (x.0, block_longer v bytes m here fault firm x.1)

bad_longer : (n : Next) (line bytes m : List ℕ) (here : ℕ) (fault : BlockFault) → IsFirm fault → IsBadAnswer n bytes here fault line → IsBadAnswer n (bytes ++ m) here fault line
bad_longer Title line bytes m here fault firm x = absurd x
bad_longer RailsLine line bytes m here fault firm x = absurd x
bad_longer (PartOrEnd v) line bytes m here fault firm x = (x.0, answer_longer v line bytes m here fault firm x.1)
bad_longer (StepOrClose v) line bytes m here fault firm x = absurd x

cut_longer : (bytes line rest m : List ℕ) → Cuts 10 bytes line rest → Cuts 10 (bytes ++ m) line (rest ++ m)
cut_longer bytes line rest m cut = record { text = ap (λ z. z ++ m) cut.text ∙ append_assoc line (10 ∷ rest) m; first = cut.first }

line_longer : (bytes m : List ℕ) (Is : List ℕ → Type 0) → HasLine bytes Is → HasLine (bytes ++ m) Is
line_longer bytes m Is (line, rest, cut, is) = (line, rest ++ m, cut_longer bytes line rest m cut, is)

fault_longer : (n : Next) (bytes m : List ℕ) (here : ℕ) (fault : BlockFault) → IsFirm fault → HasLine bytes (IsBadAnswer n bytes here fault) → HasLine (bytes ++ m) (IsBadAnswer n (bytes ++ m) here fault)
fault_longer n bytes m here fault firm (line, rest, cut, is) = (line, rest ++ m, cut_longer bytes line rest m cut, bad_longer n line bytes m here fault firm is)

nothing_behind : (xs ys : List ℕ) → xs ++ ys ≡ [] → xs ≡ []
nothing_behind [] ys e = refl
nothing_behind (x ∷ xs) ys e = absurd cc

more_longer : (n : Next) (bytes m : List ℕ) → HasMore n bytes → HasMore n (bytes ++ m)
more_longer Title bytes m x = absurd x
more_longer RailsLine bytes m x = absurd x
more_longer (PartOrEnd v) bytes m (more, e, some) = (more ++ m, ap (λ z. z ++ m) e, (λ f. some (nothing_behind more m f)))
more_longer (StepOrClose v) bytes m x = absurd x

-- where a fault is that of a truncated answer, its line is the last one
cut_number : (n : Next) (line bytes : List ℕ) (here k : ℕ) → IsBadAnswer n bytes here (faults.Truncated k) line → k ≡ here + feeds bytes
cut_number Title line bytes here k x = absurd x
cut_number RailsLine line bytes here k x = absurd x
cut_number (PartOrEnd v) line bytes here k (w, inl x) = let e = x.1 in absurd cc
cut_number (PartOrEnd v) line bytes here k (w, inr x) = x.1.number_is
cut_number (StepOrClose v) line bytes here k x = absurd x

-- the bytes end too early, or what is wrong with them stays wrong
abbrev Outcome : Next → List ℕ → List ℕ → ℕ → JournalRefusal → Type 0
Outcome n bytes m here r = (r ≡ refusals.Truncated (here + feeds bytes)) ⊎ Halts n (bytes ++ m) here r

outcome : (n : Next) (bytes m : List ℕ) (here : ℕ) (r : JournalRefusal) → Halts n bytes here r → Outcome n bytes m here r
outcome n bytes m here (refusals.Header k) h = inr (h.0, line_longer bytes m _ h.1)
outcome n bytes m here (refusals.Rails k) h = inr (h.0, line_longer bytes m _ h.1)
outcome n bytes m here (refusals.Word k) h = inr (h.0, line_longer bytes m _ h.1)
outcome n bytes m here (refusals.Order k) h = inr (h.0, line_longer bytes m _ h.1)
outcome n bytes m here (refusals.Question k) h = inr (h.0, line_longer bytes m _ h.1)
outcome n bytes m here (refusals.Step k) h = inr (h.0, line_longer bytes m _ h.1)
outcome n bytes m here (refusals.Block k) (inl h) = inr (inl (fault_longer n bytes m here (faults.Block k) tt h))
outcome n bytes m here (refusals.Block k) (inr h) = inr (inr (fault_longer n bytes m here (faults.Grid k) tt h))
outcome n bytes m here (refusals.Proofs k) h = inr (fault_longer n bytes m here (faults.Proofs k) tt h)
outcome n bytes m here (refusals.Trailing k) h = inr (h.0, more_longer n bytes m h.1)
outcome n bytes m here (refusals.Truncated k) (inl h) = inl (ap refusals.Truncated (let none = feeds-none bytes h.1 in let same = h.0 in omega (arith, none, same)))
outcome n bytes m here (refusals.Truncated k) (inr (line, rest, cut, is)) = inl (ap refusals.Truncated (cut_number n line bytes here k is))
outcome n bytes m here refusals.NoMemory h = absurd h

short : (m : List ℕ) → codes "end\n" ≡ codes "end\n" ++ m → m ≡ []
short [] e = refl
short (x ∷ m) e = absurd (let k = ap length e in omega (arith, k))

longer_front : (text m front bytes : List ℕ) → text ≡ front ++ bytes → text ++ m ≡ front ++ (bytes ++ m)
longer_front text m front bytes e = ap (λ z. z ++ m) e ∙ append_assoc front bytes m

refused_front : (j : JournalParts) (text m : List ℕ) (r : JournalRefusal) → IsJournal j → journal_text j ≡ text ++ m → IsRefused text r → r ≡ refusals.Truncated (1 + feeds text)
refused_front j text m r p e x = elim (outcome (next_at x.place) x.bytes m (1 + feeds (before x.place)) r x.halts) [
  | inl truncated ↦
      truncated ∙ ap refusals.Truncated (let all = ap feeds x.text_is in omega (arith, all, feeds-append (before x.place) x.bytes))
  | inr halts ↦
      let found = one_place (text ++ m) (Outside j) x.place (codes "end\n") (x.bytes ++ m) p x.is_place (sym e ∙ ended j) (longer_front text m (before x.place) x.bytes x.text_is) (stuck_end j.version [])
      (stuck_halts (next_at x.place) (x.bytes ++ m) (1 + feeds (before x.place)) r halts) in
      absurd (end_or_refused j x.place (x.bytes ++ m) r found.0 found.1 halts)
]

front_given : (j : JournalParts) (text m : List ℕ) (given : Result JournalParts JournalRefusal) → IsJournal j → m ≢ [] → journal_text j ≡ text ++ m → Gives text given → Gives text (Err (refusals.Truncated (1 + feeds text)))
front_given j text m (Ok k) p some e x =
    let found = one_place (text ++ m) (Outside j) (Outside k) (codes "end\n") (codes "end\n" ++ m) p x.0 (sym e ∙ ended j) (longer_front text m (before (Outside k)) (codes "end\n") (x.1 ∙ ended k)) (stuck_end j.version []) (stuck_end k.version m) in
    absurd (some (short m found.1))
front_given j text m (Err r) p some e x = subst (IsRefused text) (refused_front j text m r p e x) x

-- a proper front of a journal's text ends too early
pub front_is_cut_short : (j : JournalParts) (text m : List ℕ) → IsJournal j → m ≢ [] → journal_text j ≡ text ++ m → Gives text (Err (refusals.Truncated (1 + feeds text)))
front_is_cut_short j text m p some e = let found = some_answer text in front_given j text m found.0 p some e found.1

-- ---- what was answered is what the text gives

pub memory_or : (r : JournalRefusal) → (r ≡ refusals.NoMemory) ⊎ (r ≢ refusals.NoMemory)
memory_or (refusals.Header n) = inr (λ e. absurd cc)
memory_or (refusals.Rails n) = inr (λ e. absurd cc)
memory_or (refusals.Word n) = inr (λ e. absurd cc)
memory_or (refusals.Order n) = inr (λ e. absurd cc)
memory_or (refusals.Question n) = inr (λ e. absurd cc)
memory_or (refusals.Step n) = inr (λ e. absurd cc)
memory_or (refusals.Block n) = inr (λ e. absurd cc)
memory_or (refusals.Proofs n) = inr (λ e. absurd cc)
memory_or (refusals.Trailing n) = inr (λ e. absurd cc)
memory_or (refusals.Truncated n) = inr (λ e. absurd cc)
memory_or refusals.NoMemory = inl refl

-- what a reader says: the journal that the text spells with the numbers of its lines, or its refusal
abbrev pub Says : List ℕ → Result Journal JournalRefusal → Type 0
Says text r =
    MatchResult r (λ journal. IsJournal (parts_of_journal journal) × (text ≡ journal_text (parts_of_journal journal)) × HasLineNumbers journal) (λ refusal. refusal ≢ refusals.NoMemory → IsRefused text refusal)

pub found_ok : (text : List ℕ) (r : Result Journal JournalRefusal) → Says text r → IfOk r (λ journal. Gives text (Ok (parts_of_journal journal)))
found_ok text (Ok journal) h = (h.0, h.1)
found_ok text (Err e) h = tt

pub lines_ok : (text : List ℕ) (r : Result Journal JournalRefusal) → Says text r → IfOk r (λ journal. HasLineNumbers journal)
lines_ok text (Ok journal) h = h.2
lines_ok text (Err e) h = tt

pub refused_ok : (text : List ℕ) (r : Result Journal JournalRefusal) → Says text r → IfErr r (λ refusal. refusal ≢ refusals.NoMemory → IsRefused text refusal)
refused_ok text (Ok journal) h = tt
refused_ok text (Err e) h = h

pub answered : (text : List ℕ) (r : Result Journal JournalRefusal) → Says text r → (given : Result JournalParts JournalRefusal) → Gives text given → IsErrOf r refusals.NoMemory ⊎ (seen r ≡ given)
answered text (Ok journal) h given g = inr (one_answer text (Ok (parts_of_journal journal)) given (h.0, h.1) g)
answered text (Err e) h given g = elim (memory_or e) [
  | inl memory ↦ inl (ap Err memory)
  | inr other ↦ inr (one_answer text (Err e) given (h other) g)
]
