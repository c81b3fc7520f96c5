-- What a journal says is no longer than its text.
use Rattle.std.proofs.Common.{◌≡◌, ℕ, ◌+◌, ◌≤◌, List, [], ◌∷◌, ◌++◌, map, length, length-append, refl, ap, arith, Bool, true, false, codes}
use Rattle.std.proofs.lemmas.List.{length-map}
use Rattle.std.proofs.lemmas.List.Elements.{All-head, All-tail}
use Rattle.std.proofs.lemmas.Grind.{flat_map-append}
use Rattle.std.specs.List.{flat_map, join_with_byte}
use Rattle.std.specs.Fmt.{decimal}
use Rattle.std.specs.Prelude.{All}
use Rattle.clause_core.specs.Cnf.{literals_text}
use Rattle.journal_text.specs.Bounds.{IsPart, IsJournal}
use Rattle.journal_text.specs.Parts.{Section, Part, Question, Answered, JournalParts}
use Rattle.journal_text.specs.Text.{head_text, target_text, question_text, steps_text, close_text, section_text, part_text, parts_text, front_text, journal_text}
use Rattle.lrat_replay.specs.LratText.{id_text, hints_text, end_text, step_text}
use Rattle.lrat_replay.specs.declared.line.Step.{Step}
use Rattle.pla_reader.specs.Name.{IsName}
use Rattle.report_text.specs.Bounds.{IsAnswer}
use Rattle.report_text.specs.Cells.{proof_text}
use Rattle.report_text.specs.Form.{lattice_of, form_of, form_words, lists}
use Rattle.report_text.specs.Report.{BlockParts, Line, words_text, text_of, heading_words, heading_of, lattice_lines, proofs_lines, block_lines, block_text}
use Rattle.report_text.specs.declared.answer.Proof.{Proof}
use Rattle.report_text.specs.declared.answer.Version.{Version}

-- pieces that are not empty
many_pieces : {X : Type 0} (f : X → List ℕ) (xs : List X) → ((x : X) → 1 ≤ length (f x)) → length xs ≤ length (flat_map f xs)
many_pieces f [] some = omega arith
many_pieces f (x ∷ xs) some =
    let more = many_pieces f xs some in
    let here = some x in
    let sum = length-append (f x) (flat_map f xs) in
    omega (arith, more, here, sum)

-- ---- sections

step_some : (s : Step) → 1 ≤ length (step_text s.id s.clause s.hints)
step_some s =
    let whole = length-append (id_text s.id) (literals_text s.clause ++ end_text s.hints) in
    let later = length-append (literals_text s.clause) (end_text s.hints) in
    let last = length-append (codes "0 ") (hints_text s.hints ++ codes "0\n") in
    let two : length (codes "0 ") ≡ 2 = refl in
    omega (arith, whole, later, last, two)

steps_short : (s : Section) → length s.steps ≤ length (section_text s)
unfolding section_text
steps_short s =
    let many = many_pieces (λ step. step_text step.id step.clause step.hints) s.steps step_some in
    let whole = length-append (question_text s.output s.target) (steps_text s.steps ++ close_text s.close) in
    let later = length-append (steps_text s.steps) (close_text s.close) in
    omega (arith, many, whole, later)

section_some : (s : Section) → 1 ≤ length (section_text s)
unfolding section_text question_text
section_some s =
    let whole = length-append (question_text s.output s.target) (steps_text s.steps ++ close_text s.close) in
    let first = length-append (codes "question ") (decimal s.output ++ (codes " " ++ (target_text s.target ++ codes "\n"))) in
    let nine : length (codes "question ") ≡ 9 = refl in
    omega (arith, whole, first, nine)

-- ---- blocks

head_short : (w : List ℕ) (ws : List (List ℕ)) → length w ≤ length (join_with_byte 32 (w ∷ ws))
head_short w [] = omega arith
head_short w (v ∷ ws) = let sum = length-append w (32 ∷ join_with_byte 32 (v ∷ ws)) in omega (arith, sum)

third_short : (a b c : List ℕ) (ws : List (List ℕ)) → length c ≤ length (join_with_byte 32 (a ∷ b ∷ c ∷ ws))
third_short a b c ws =
    let here = head_short c ws in
    let second = length-append b (32 ∷ join_with_byte 32 (c ∷ ws)) in
    let first = length-append a (32 ∷ join_with_byte 32 (b ∷ c ∷ ws)) in
    omega (arith, here, second, first)

words_short : (w : List ℕ) (ws : List (List ℕ)) → length ws ≤ length (join_with_byte 32 (w ∷ ws))
words_short w [] = omega arith
words_short w (v ∷ ws) =
    let later = words_short v ws in
    let sum = length-append w (32 ∷ join_with_byte 32 (v ∷ ws)) in
    omega (arith, later, sum)

heading_short : (version : Version) (block : BlockParts) → length block.name + 1 ≤ length (block_text version block)
unfolding block_text block_lines
heading_short version block =
    let name = third_short (codes "output") (decimal block.output) block.name (form_words (form_of block.answer)) in
    let line = length-append (join_with_byte 32 (heading_words (heading_of block))) (10 ∷ []) in
    let whole = length-append (words_text (heading_words (heading_of block))) (text_of (lattice_lines (lattice_of block.answer) ++ proofs_lines (lists version (form_of block.answer)) block.proofs)) in
    omega (arith, name, line, whole)

listed_short : (b : Bool) (proofs : List Proof) → (b ≡ false → proofs ≡ []) → length proofs ≤ length (text_of (proofs_lines b proofs))
listed_short false proofs none = let same = ap length (none refl) in omega (arith, same)
listed_short true proofs none =
    let many = words_short (codes "refuted") (map proof_text proofs) in
    let same = length-map proofs proof_text in
    let line = length-append (join_with_byte 32 (codes "refuted" ∷ map proof_text proofs)) (10 ∷ []) in
    let whole = length-append (words_text (codes "refuted" ∷ map proof_text proofs)) [] in
    omega (arith, many, same, line, whole)

proofs_short : (version : Version) (block : BlockParts) → (lists version (form_of block.answer) ≡ false → block.proofs ≡ []) → length block.proofs ≤ length (block_text version block)
unfolding block_text block_lines
proofs_short version block none =
    let cells = lattice_lines (lattice_of block.answer) in
    let last = proofs_lines (lists version (form_of block.answer)) block.proofs in
    let listed = listed_short (lists version (form_of block.answer)) block.proofs none in
    let whole = length-append (words_text (heading_words (heading_of block))) (text_of (cells ++ last)) in
    let two = ap length (flat_map-append (λ (l : Line). words_text l.words) cells last) in
    let sum = length-append (text_of cells) (text_of last) in
    omega (arith, listed, whole, two, sum)

-- ---- journals

abbrev pub IsShort : {X : Type 0} → List X → Type 0
IsShort xs = length xs ≤ 536870912

-- what has room in memory
abbrev pub IsSmall : Part → Type 0
IsSmall (Question s) = IsShort s.steps
IsSmall (Answered block) = IsName block.name × IsAnswer block.answer × IsShort block.name × IsShort block.proofs

abbrev pub AreSmall : List Part → Type 0
AreSmall [] = Unit {0}
AreSmall (p ∷ parts) = IsSmall p × AreSmall parts

part_some : (version : Version) (p : Part) → 1 ≤ length (part_text version p)
part_some version (Question s) = section_some s
part_some version (Answered block) = let long = heading_short version block in omega (arith, long)

part_small : (version : Version) (p : Part) → IsPart version p → length (part_text version p) ≤ 536870912 → IsSmall p
part_small version (Question s) is few = let short = steps_short s in omega (arith, short, few)
part_small version (Answered block) is few =
    let name = heading_short version block in
    let proofs = proofs_short version block is.0.none in
    (is.0.name, is.0.answer, omega (arith, name, few), omega (arith, proofs, few))

parts_small : (version : Version) (parts : List Part) → All (IsPart version) parts → length (parts_text version parts) ≤ 536870912 → AreSmall parts
parts_small version [] is few = tt
parts_small version (p ∷ parts) is few =
    let sum = length-append (part_text version p) (parts_text version parts) in (
      part_small version p (All-head (IsPart version) p parts is) (omega (arith, sum, few)),
      parts_small version parts (All-tail (IsPart version) p parts is) (omega (arith, sum, few)),
    )

parts_few : (journal : JournalParts) → length (journal_text journal) ≤ 536870912 → length (parts_text journal.version journal.parts) ≤ 536870912
unfolding journal_text front_text
parts_few journal few =
    let front = head_text journal.version journal.rails ++ parts_text journal.version journal.parts in
    let whole = length-append front (codes "end\n") in
    let sum = length-append (head_text journal.version journal.rails) (parts_text journal.version journal.parts) in
    omega (arith, whole, sum, few)

pub journal_small : (journal : JournalParts) → IsJournal journal → length (journal_text journal) ≤ 536870912 → AreSmall journal.parts × IsShort journal.parts
journal_small journal is few =
    let parts = parts_few journal few in
    let many = many_pieces (part_text journal.version) journal.parts (part_some journal.version) in
    (parts_small journal.version journal.parts is.parts parts, omega (arith, many, parts))
