-- A question's line stays the last one that begins with `question` while lines of steps come behind it.
use Rattle.std.proofs.Common.{◌≡◌, ◌≢◌, ◌⊎◌, inl, inr, ℕ, zero, suc, ◌+◌, ◌/◌, ◌%◌, ◌<◌, ◌==◌, Bool, true, false, cond, ◌&&◌, List, [], ◌∷◌, ◌++◌, map, refl, sym, ap, ◌∙◌, subst, append_assoc, codes, arith, ℤ, pos, negsuc, Some}
use Rattle.std.specs.List.{flat_map, AllByRecursion, join_with_byte}
use Rattle.std.specs.Fmt.{decimal, signed_decimal, digits, digits_onto, digit_glyph}
use Rattle.std.proofs.lemmas.Bool.{ne_eqb}
use Rattle.std.proofs.lemmas.List.{append-nil}
use Rattle.clause_core.specs.Literal.{Literal, signed}
use Rattle.clause_core.specs.Cnf.{literals_text}
use Rattle.lattice_grid.specs.declared.array.Defect.{Defect}
use Rattle.lattice_grid.specs.declared.array.Defect.TheVariants.{Sound, StuckOpen, StuckClosed}
use Rattle.lattice_grid.specs.Rectangle.{Size}
use Rattle.lrat_replay.specs.declared.line.Step.{Step}
use Rattle.lrat_replay.specs.LratText.{hints_text, step_text}
use Rattle.report_text.specs.Cells.{size_text, array_text, rows_of, defect_byte}
use Rattle.report_text.specs.Pieces.{Without}
use Rattle.report_text.proofs.Tools.{Without-join, Without-append}
use Rattle.report_text.specs.Report.{Line, BlockParts, words_text, text_of, block_text, block_lines}
use Rattle.report_text.specs.declared.answer.Version.{Version}
use Rattle.report_text.specs.declared.answer.Version.TheVariants.{One, Two}
use Rattle.journal_text.specs.declared.target.Close.{Close}
use Rattle.journal_text.specs.declared.target.Close.TheVariants.{Refuted, Spent, Satisfied}
use Rattle.journal_text.specs.declared.target.Target.{Target}
use Rattle.journal_text.specs.declared.target.Target.TheVariants.{Whole, Marked}
use Rattle.journal_text.specs.Parts.{Part, Question, Answered}
use Rattle.journal_text.specs.Text.{head_text, target_text, question_text, steps_text, close_text, section_text, part_text, parts_text, front_text}
use Rattle.journal_text.specs.Origin.{lines_after, whole_lines, begins_with, behind, up_to_question, origin_of}

-- ---- lines

abbrev flat : List (List ℕ) → List ℕ
flat ls = flat_map (λ l. l) ls

-- the bytes end with a line feed, or there are none
abbrev pub IsWhole : List ℕ → Type 0
IsWhole bytes = (bytes ≡ []) ⊎ ((front : List ℕ) × (bytes ≡ front ++ 10 ∷ []))

abbrev Question1 : Bool → List ℕ → Type 0
Question1 b line = begins_with (codes "question") line ≡ b

branch : (t : Bool) (l : List ℕ) (p q p' q' r : List (List ℕ)) → p ≡ p' ++ r → q ≡ q' ++ r → cond t (l ∷ p) q ≡ cond t (l ∷ p') q' ++ r
branch true l p q p' q' r e f = ap (λ z. l ∷ z) e
branch false l p q p' q' r e f = f

lines-append : (line a b : List ℕ) → lines_after line (a ++ 10 ∷ b) ≡ lines_after line (a ++ 10 ∷ []) ++ lines_after [] b
lines-append line [] b = refl
lines-append line (x ∷ a) b =
    branch (x == 10) (line ++ x ∷ []) (lines_after [] (a ++ 10 ∷ b)) (lines_after (line ++ x ∷ []) (a ++ 10 ∷ b)) (lines_after [] (a ++ 10 ∷ [])) (lines_after (line ++ x ∷ []) (a ++ 10 ∷ [])) (lines_after [] b)
    (lines-append [] a b) (lines-append (line ++ x ∷ []) a b)

lines-one : (line q rest : List ℕ) → Without 10 q → lines_after line (q ++ 10 ∷ rest) ≡ (line ++ (q ++ 10 ∷ [])) ∷ lines_after [] rest
lines-one line [] rest h = refl
lines-one line (x ∷ q) rest h =
    ap (λ (t : Bool). cond t ((line ++ x ∷ []) ∷ lines_after [] (q ++ 10 ∷ rest)) (lines_after (line ++ x ∷ []) (q ++ 10 ∷ rest))) (ne_eqb x 10 h.0)
    ∙ lines-one (line ++ x ∷ []) q rest h.1 ∙ ap (λ z. z ∷ lines_after [] rest) (append_assoc line (x ∷ []) (q ++ 10 ∷ []))

flat-branch : (t : Bool) (l : List ℕ) (p q : List (List ℕ)) (u v : List ℕ) → flat p ≡ u → flat q ≡ v → l ++ u ≡ v → flat (cond t (l ∷ p) q) ≡ v
flat-branch true l p q u v e f g = ap (λ z. l ++ z) e ∙ g
flat-branch false l p q u v e f g = f

flat-lines : (line a : List ℕ) → flat (lines_after line (a ++ 10 ∷ [])) ≡ line ++ (a ++ 10 ∷ [])
flat-lines line [] = append-nil (line ++ 10 ∷ [])
flat-lines line (x ∷ a) =
    flat-branch (x == 10) (line ++ x ∷ []) (lines_after [] (a ++ 10 ∷ [])) (lines_after (line ++ x ∷ []) (a ++ 10 ∷ [])) (a ++ 10 ∷ []) (line ++ (x ∷ (a ++ 10 ∷ [])))
    (flat-lines [] a) (flat-lines (line ++ x ∷ []) a ∙ append_assoc line (x ∷ []) (a ++ 10 ∷ [])) (append_assoc line (x ∷ []) (a ++ 10 ∷ []))

-- ---- the last that begins with `question`

none_up : (ls : List (List ℕ)) → AllByRecursion (Question1 false) ls → up_to_question ls ≡ []
none_up [] h = refl
none_up (l ∷ ls) h = ap (behind l) (none_up ls h.1) ∙ ap (λ (t : Bool). cond t l []) h.0

behind-some : (l o : List ℕ) → o ≢ [] → behind l o ≡ l ++ o
behind-some l [] some = absurd (some refl)
behind-some l (b ∷ o) some = refl

some-append : (xs ys : List ℕ) → ys ≢ [] → xs ++ ys ≢ []
some-append [] ys some e = some e
some-append (x ∷ xs) ys some e = absurd (cc e)

up-append : (ls later : List (List ℕ)) → up_to_question later ≢ [] → up_to_question (ls ++ later) ≡ flat ls ++ up_to_question later
up-append [] later some = refl
up-append (l ∷ ls) later some =
    let rest = up-append ls later some in
    ap (behind l) rest ∙ behind-some l (flat ls ++ up_to_question later) (some-append (flat ls) (up_to_question later) some) ∙ sym (append_assoc l (flat ls) (up_to_question later))

quiet_front : (l : List ℕ) → Without 113 l → Question1 false l
quiet_front [] h = refl
quiet_front (c ∷ l) h = ap (λ (t : Bool). t && begins_with (codes "uestion") l) (ne_eqb c 113 h.0)

quiet-branch : (t : Bool) (l : List ℕ) (p q : List (List ℕ)) → Question1 false l → AllByRecursion (Question1 false) p → AllByRecursion (Question1 false) q → AllByRecursion (Question1 false) (cond t (l ∷ p) q)
quiet-branch true l p q a b c = (a, b)
quiet-branch false l p q a b c = c

quiet : (line bytes : List ℕ) → Without 113 line → Without 113 bytes → AllByRecursion (Question1 false) (lines_after line bytes)
quiet line [] h k = tt
quiet line (b ∷ bytes) h k =
    let more = Without-append 113 line (b ∷ []) h (k.0, tt) in
    quiet-branch (b == 10) (line ++ b ∷ []) (lines_after [] bytes) (lines_after (line ++ b ∷ []) bytes) (quiet_front (line ++ b ∷ []) more) (quiet [] bytes tt k.1) (quiet (line ++ b ∷ []) bytes more k.1)

some-feed : (q : List ℕ) → q ++ 10 ∷ [] ≢ []
some-feed q = some-append q (10 ∷ []) (λ e. cc e)

last_one : (q rest : List ℕ) → Without 10 q → Question1 true (q ++ 10 ∷ []) → Without 113 rest → up_to_question (whole_lines (q ++ 10 ∷ rest)) ≡ q ++ 10 ∷ []
last_one q rest h begins k =
    ap up_to_question (lines-one [] q rest h) ∙ ap (behind (q ++ 10 ∷ [])) (none_up (whole_lines rest) (quiet [] rest tt k)) ∙ ap (λ (t : Bool). cond t (q ++ 10 ∷ []) []) begins

pub origin-is : (front q rest : List ℕ) → IsWhole front → Without 10 q → Question1 true (q ++ 10 ∷ []) → Without 113 rest → origin_of (Some ((front ++ (q ++ 10 ∷ [])) ++ rest)) ≡ front ++ (q ++ 10 ∷ [])
unfolding origin_of
origin-is front q rest (inl none) h begins k =
    subst (λ (z : List ℕ). up_to_question (whole_lines ((z ++ (q ++ 10 ∷ [])) ++ rest)) ≡ z ++ (q ++ 10 ∷ [])) (sym none)
    (ap (λ z. up_to_question (whole_lines z)) (append_assoc q (10 ∷ []) rest) ∙ last_one q rest h begins k)
origin-is front q rest (inr (before, is)) h begins k =
    let one = last_one q rest h begins k in
    let some : up_to_question (whole_lines (q ++ 10 ∷ rest)) ≢ [] = λ e. some-feed q (sym one ∙ e) in
    let parts : (front ++ (q ++ 10 ∷ [])) ++ rest ≡ before ++ 10 ∷ (q ++ 10 ∷ rest) =
    append_assoc front (q ++ 10 ∷ []) rest ∙ ap (λ z. front ++ z) (append_assoc q (10 ∷ []) rest) ∙ ap (λ z. z ++ (q ++ 10 ∷ rest)) is ∙ append_assoc before (10 ∷ []) (q ++ 10 ∷ rest) in
    ap (λ z. up_to_question (whole_lines z)) parts ∙ ap up_to_question (lines-append [] before (q ++ 10 ∷ rest))
    ∙ up-append (whole_lines (before ++ 10 ∷ [])) (whole_lines (q ++ 10 ∷ rest)) some
    ∙ ap (λ z. z ++ up_to_question (whole_lines (q ++ 10 ∷ rest))) (flat-lines [] before ∙ sym is) ∙ ap (λ z. front ++ z) one

-- ---- numbers have digits alone

abbrev Apart : ℕ → Type 0
Apart at = (at < 48) ⊎ (57 < at)

glyph : (d : ℕ) → d < 10 → digit_glyph false d ≡ 48 + d
glyph d small = grind (arith)

apart : (at d : ℕ) → Apart at → d < 10 → digit_glyph false d ≢ at
apart at d (inl low) small e = let g = glyph d small in omega (arith, g, e)
apart at d (inr high) small e = let g = glyph d small in omega (arith, g, e)

digit-branch : (at : ℕ) (t : Bool) (p q : List ℕ) → Without at p → Without at q → Without at (cond t p q)
digit-branch at true p q h k = h
digit-branch at false p q h k = k

Without-digits : (at : ℕ) → Apart at → (k n : ℕ) (acc : List ℕ) → Without at acc → Without at (digits_onto k 10 false n acc)
Without-digits at far zero n acc h = h
Without-digits at far (suc k) n acc h =
    let more : Without at (digit_glyph false (n % 10) ∷ acc) = (apart at (n % 10) far (omega arith), h) in
    digit-branch at (n / 10 == 0) (digit_glyph false (n % 10) ∷ acc) (digits_onto k 10 false (n / 10) (digit_glyph false (n % 10) ∷ acc)) more (Without-digits at far k (n / 10) (digit_glyph false (n % 10) ∷ acc) more)

pub Without-decimal : (at n : ℕ) → Apart at → Without at (decimal n)
unfolding digits
Without-decimal at n far = Without-digits at far 64 n [] tt

pub Without-signed : (at : ℕ) (z : ℤ) → Apart at → at ≢ 45 → Without at (signed_decimal z)
Without-signed at (pos n) far ne = Without-decimal at n far
Without-signed at (negsuc n) far ne = ((λ e. ne (sym e)), Without-decimal at (suc n) far)

-- ---- lines of steps

Without-literals : (clause : List Literal) → Without 113 (literals_text clause)
Without-literals [] = tt
Without-literals (l ∷ clause) =
    Without-append 113 (signed_decimal (signed l) ++ 32 ∷ []) (literals_text clause)
    (Without-append 113 (signed_decimal (signed l)) (32 ∷ []) (Without-signed 113 (signed l) (inr (omega arith)) (λ e. omega (arith, e))) ((λ e. omega (arith, e)), tt)) (Without-literals clause)

Without-hints : (hints : List ℤ) → Without 113 (hints_text hints)
Without-hints [] = tt
Without-hints (z ∷ hints) =
    Without-append 113 (signed_decimal z ++ 32 ∷ []) (hints_text hints)
    (Without-append 113 (signed_decimal z) (32 ∷ []) (Without-signed 113 z (inr (omega arith)) (λ e. omega (arith, e))) ((λ e. omega (arith, e)), tt)) (Without-hints hints)

pub Without-step : (id : ℕ) (clause : List Literal) (hints : List ℤ) → Without 113 (step_text id clause hints)
Without-step id clause hints =
    Without-append 113 (decimal id ++ 32 ∷ []) (literals_text clause ++ (48 ∷ 32 ∷ (hints_text hints ++ 48 ∷ 10 ∷ [])))
    (Without-append 113 (decimal id) (32 ∷ []) (Without-decimal 113 id (inr (omega arith))) ((λ e. omega (arith, e)), tt))
    (Without-append 113 (literals_text clause) (48 ∷ 32 ∷ (hints_text hints ++ 48 ∷ 10 ∷ [])) (Without-literals clause)
    ((λ e. omega (arith, e)), ((λ e. omega (arith, e)), Without-append 113 (hints_text hints) (48 ∷ 10 ∷ []) (Without-hints hints) ((λ e. omega (arith, e)), ((λ e. omega (arith, e)), tt)))))

pub Without-steps : (steps : List Step) → Without 113 (steps_text steps)
Without-steps [] = tt
Without-steps (s ∷ steps) = Without-append 113 (step_text s.id s.clause s.hints) (steps_text steps) (Without-step s.id s.clause s.hints) (Without-steps steps)

-- ---- a question's line

Without-size : (s : Size) → Without 10 (size_text s)
Without-size s = Without-append 10 (decimal s.rows) (120 ∷ decimal s.cols) (Without-decimal 10 s.rows (inl (omega arith))) ((λ e. omega (arith, e)), Without-decimal 10 s.cols (inl (omega arith)))

no_feed-defect : (d : Defect) → defect_byte d ≢ 10
no_feed-defect Sound e = omega (arith, e)
no_feed-defect StuckOpen e = omega (arith, e)
no_feed-defect StuckClosed e = omega (arith, e)

no_feed-row : (ds : List Defect) → Without 10 (map defect_byte ds)
no_feed-row [] = tt
no_feed-row (d ∷ ds) = (no_feed-defect d, no_feed-row ds)

no_feed-rows : (rows : List (List Defect)) → AllByRecursion (Without 10) (map (map defect_byte) rows)
no_feed-rows [] = tt
no_feed-rows (row ∷ rows) = (no_feed-row row, no_feed-rows rows)

Without-target : (t : Target) → Without 10 (target_text t)
Without-target (Whole s) = Without-size s
Without-target (Marked a) =
    Without-append 10 (size_text a.size) (32 ∷ array_text a) (Without-size a.size)
    ((λ e. omega (arith, e)), Without-join 10 47 (map (map defect_byte) (rows_of a.size.cols a.size.rows a.cells)) (λ e. omega (arith, e)) (no_feed-rows (rows_of a.size.cols a.size.rows a.cells)))

-- a question's line without its line feed
abbrev pub asked : ℕ → Target → List ℕ
asked output target = codes "question " ++ (decimal output ++ (codes " " ++ target_text target))

pub asked_line : (output : ℕ) (target : Target) → asked output target ++ 10 ∷ [] ≡ question_text output target
unfolding question_text
asked_line output target = ap (λ z. codes "question " ++ z) (append_assoc (decimal output) (32 ∷ target_text target) (10 ∷ []))

Without-question : Without 10 (codes "question ")
Without-question =
    ((λ e. omega (arith, e)), ((λ e. omega (arith, e)), ((λ e. omega (arith, e)), ((λ e. omega (arith, e)), ((λ e. omega (arith, e)), ((λ e. omega (arith, e)), ((λ e. omega (arith, e)), ((λ e. omega (arith, e)), ((λ e. omega (arith, e)), tt)))))))))

Without-asked : (output : ℕ) (target : Target) → Without 10 (asked output target)
Without-asked output target =
    Without-append 10 (codes "question ") (decimal output ++ (32 ∷ target_text target)) Without-question
    (Without-append 10 (decimal output) (32 ∷ target_text target) (Without-decimal 10 output (inl (omega arith))) ((λ e. omega (arith, e)), Without-target target))

-- ---- parts are whole lines

pub whole-append : (a b : List ℕ) → IsWhole a → IsWhole b → IsWhole (a ++ b)
whole-append a b h (inl none) = subst IsWhole (sym (ap (λ z. a ++ z) none ∙ append-nil a)) h
whole-append a b h (inr (front, is)) = inr (a ++ front, ap (λ z. a ++ z) is ∙ sym (append_assoc a front (10 ∷ [])))

ends : (front : List ℕ) → IsWhole (front ++ 10 ∷ [])
ends front = inr (front, refl)

whole-lines : (ls : List Line) → IsWhole (text_of ls)
whole-lines [] = inl refl
whole-lines (l ∷ ls) = whole-append (words_text l.words) (text_of ls) (ends (join_with_byte 32 l.words)) (whole-lines ls)

whole-block : (version : Version) (block : BlockParts) → IsWhole (block_text version block)
unfolding block_text
whole-block version block = whole-lines (block_lines version block)

whole-step : (s : Step) → IsWhole (step_text s.id s.clause s.hints)
whole-step s =
    inr (
      (decimal s.id ++ 32 ∷ []) ++ (literals_text s.clause ++ (48 ∷ 32 ∷ (hints_text s.hints ++ 48 ∷ []))),
      ap (λ z. (decimal s.id ++ 32 ∷ []) ++ (literals_text s.clause ++ (48 ∷ 32 ∷ z))) (sym (append_assoc (hints_text s.hints) (48 ∷ []) (10 ∷ [])))
          ∙ ap (λ z. (decimal s.id ++ 32 ∷ []) ++ z) (sym (append_assoc (literals_text s.clause) (48 ∷ 32 ∷ (hints_text s.hints ++ 48 ∷ [])) (10 ∷ [])))
          ∙ sym (append_assoc (decimal s.id ++ 32 ∷ []) (literals_text s.clause ++ (48 ∷ 32 ∷ (hints_text s.hints ++ 48 ∷ []))) (10 ∷ [])),
    )

whole-steps : (steps : List Step) → IsWhole (steps_text steps)
whole-steps [] = inl refl
whole-steps (s ∷ steps) = whole-append (step_text s.id s.clause s.hints) (steps_text steps) (whole-step s) (whole-steps steps)

whole-close : (close : Close) → IsWhole (close_text close)
whole-close Refuted = ends (codes "refuted")
whole-close (Spent budget) = inr (codes "spent " ++ decimal budget, sym (append_assoc (codes "spent ") (decimal budget) (10 ∷ [])))
whole-close Satisfied = ends (codes "satisfied")

whole-question : (output : ℕ) (target : Target) → IsWhole (question_text output target)
whole-question output target = subst IsWhole (asked_line output target) (ends (asked output target))

whole-part : (version : Version) (part : Part) → IsWhole (part_text version part)
unfolding section_text
whole-part version (Question s) =
    whole-append (question_text s.output s.target) (steps_text s.steps ++ close_text s.close) (whole-question s.output s.target) (whole-append (steps_text s.steps) (close_text s.close) (whole-steps s.steps) (whole-close s.close))
whole-part version (Answered block) = whole-block version block

whole-parts : (version : Version) (parts : List Part) → IsWhole (parts_text version parts)
whole-parts version [] = inl refl
whole-parts version (p ∷ parts) = whole-append (part_text version p) (parts_text version parts) (whole-part version p) (whole-parts version parts)

whole-head : (version : Version) (rails : ℕ) → IsWhole (head_text version rails)
unfolding head_text
whole-head One rails = ends (codes "lattice journal 1")
whole-head Two rails = inr (codes "lattice journal 2\nrails " ++ decimal rails, sym (append_assoc (codes "lattice journal 2\nrails ") (decimal rails) (10 ∷ [])))

pub whole-front : (version : Version) (rails : ℕ) (parts : List Part) → IsWhole (front_text version rails parts)
unfolding front_text
whole-front version rails parts = whole-append (head_text version rails) (parts_text version parts) (whole-head version rails) (whole-parts version parts)

-- what stands behind a question's line has no byte 113
pub question_origin : (front : List ℕ) (output : ℕ) (target : Target) (rest : List ℕ) → IsWhole front → Without 113 rest → origin_of (Some ((front ++ question_text output target) ++ rest)) ≡ front ++ question_text output target
question_origin front output target rest whole k =
    subst (λ (z : List ℕ). origin_of (Some ((front ++ z) ++ rest)) ≡ front ++ z) (asked_line output target)
    (origin-is front (asked output target) rest whole (Without-asked output target) refl k)

-- what ends with a question's line is not empty
pub some-question : (front : List ℕ) (output : ℕ) (target : Target) → front ++ question_text output target ≢ []
unfolding question_text
some-question front output target = some-append front (question_text output target) (λ e. cc e)
