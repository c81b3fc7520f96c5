-- First words, and lines as words.
use Rattle.std.proofs.Common.{◌≡◌, ◌≢◌, ℕ, ◌*◌, ◌^◌, ◌<◌, ◌≤◌, ◌==◌, ◌⊎◌, inl, inr, Bool, true, false, cond, List, [], ◌∷◌, ◌++◌, length, get_or, refl, sym, ap, ◌∙◌, subst, arith, append_assoc, codes, None, Some, ℤ, pos, negsuc}
use Rattle.std.specs.Prelude.{All}
use Rattle.std.specs.List.{AllByRecursion, join_with_byte, onto_first}
use Rattle.std.specs.Fmt.{decimal}
use Rattle.std.proofs.lemmas.List.Elements.{All-head, All-from_recursion}
use Rattle.clause_core.specs.Cnf.{literals_text}
use Rattle.clause_core.specs.Text.{words_of}
use Rattle.lattice_grid.specs.Defects.{Defects, IsArray}
use Rattle.lattice_grid.specs.Rectangle.{Size, IsSize}
use Rattle.lrat_replay.specs.Ledger.{IsAbove0}
use Rattle.lrat_replay.specs.LratRead.{kind_of}
use Rattle.lrat_replay.specs.LratText.{hints_text, end_text, step_text}
use Rattle.lrat_replay.specs.StepRead.{IsLineOf}
use Rattle.lrat_replay.specs.declared.line.LineKind.TheVariants.{Add, Delete}
use Rattle.lrat_replay.specs.declared.line.Step.{Step}
use Rattle.lrat_replay.proofs.Tools.{kind-line, kind-is_step}
use Rattle.report_text.specs.Cells.{size_text, array_text}
use Rattle.report_text.specs.Pieces.{Without, words}
use Rattle.report_text.specs.Report.{words_text}
use Rattle.report_text.specs.declared.answer.Version.{Version}
use Rattle.report_text.specs.declared.answer.Version.TheVariants.{One, Two}
use Rattle.report_text.proofs.Tools.{pieces-join, join-pieces, Without-decimal, decimal-digits, first_digit, pieces-some, pieces-cut, SpellsLine, nothing, then, after, only, told_as, then_of, Tested, tested_both, tested_as, tested_eq, tested_lt, tested_le, tested_list, tested_all, numbers, sizes, arrays, size_of_array}
use Rattle.journal_text.specs.Bounds.{IsTarget, IsClose}
use Rattle.journal_text.specs.Lines.{IsLead, target_words, question_words, close_words}
use Rattle.journal_text.specs.Reading.{first_word, IsNumber, IsClosing, title_text, IsTitleLine, rails_text, IsRailsLine, IsQuestionLine, IsClosingLine, IsStepLine}
use Rattle.journal_text.specs.Text.{target_text, question_text, close_text}
use Rattle.journal_text.specs.declared.lead.Lead.{Lead}
use Rattle.journal_text.specs.declared.lead.Lead.TheVariants as leads
use Rattle.journal_text.specs.declared.target.Close.{Close}
use Rattle.journal_text.specs.declared.target.Close.TheVariants.{Refuted, Spent, Satisfied}
use Rattle.journal_text.specs.declared.target.Target.{Target}
use Rattle.journal_text.specs.declared.target.Target.TheVariants.{Whole, Marked}

-- ---- first words

first-head : (line : List ℕ) → first_word line ≡ get_or (words line) 0 []
first-head [] = refl
first-head (b ∷ line) = by (b == 32) (words line) (pieces-some 32 line) (first-head line) where
  by : (t : Bool) (ps : List (List ℕ)) → 0 < length ps → first_word line ≡ get_or ps 0 [] → cond t [] (b ∷ first_word line) ≡ get_or (cond t ([] ∷ ps) (onto_first b ps)) 0 []
  by true ps some e = refl
  by false [] some e = absurd (omega arith)
  by false (p ∷ ps) some e = ap (λ z. b ∷ z) e

-- the first word is the first of the words
pub first_is : (line word : List ℕ) (ws : List (List ℕ)) → words line ≡ word ∷ ws → first_word line ≡ word
first_is line word ws e = first-head line ∙ ap (λ z. get_or z 0 []) e

-- ---- what first words say

tested_digit : (b : ℕ) → Tested ((48 ≤ b) × (b ≤ 57))
tested_digit b = tested_both (48 ≤ b) (b ≤ 57) (tested_le 48 b) (tested_le b 57)

pub tested_number : (word : List ℕ) → Tested (IsNumber word)
tested_number word =
    tested_as ((0 < length word) × (All (λ b. (48 ≤ b) × (b ≤ 57)) word × ((get_or word 0 0 ≡ 48) → length word ≡ 1))) (IsNumber word) (λ h. record { some = h.0; digits = h.1.0; lead = h.1.1 }) (λ h. (h.some, (h.digits, h.lead)))
    (tested_both (0 < length word) (All (λ b. (48 ≤ b) × (b ≤ 57)) word × ((get_or word 0 0 ≡ 48) → length word ≡ 1)) (tested_lt 0 (length word))
    (tested_both (All (λ b. (48 ≤ b) × (b ≤ 57)) word) ((get_or word 0 0 ≡ 48) → length word ≡ 1) (tested_all (λ b. (48 ≤ b) × (b ≤ 57)) tested_digit word) (lead word))) where
      lead : (w : List ℕ) → Tested ((get_or w 0 0 ≡ 48) → length w ≡ 1)
      lead w = elim (tested_eq (length w) 1) [
        | inl one ↦ inl (λ z. one)
        | inr many ↦ elim (tested_eq (get_or w 0 0) 48) [ inl zero_ ↦ inr (λ h. many (h zero_)) | inr other ↦ inl (λ z. absurd (other z)) ]
      ]

-- a number begins with a digit
pub number_first : (word : List ℕ) → IsNumber word → (48 ≤ get_or word 0 0) × (get_or word 0 0 ≤ 57)
number_first [] h = absurd (let some = h.some in omega (arith, some))
number_first (b ∷ word) h = All-head (λ x. (48 ≤ x) × (x ≤ 57)) b word h.digits

pub decimal_number : (n : ℕ) → n < 2 ^ 32 → IsNumber (decimal n)
decimal_number n small =
    let first = first_digit n small in
    record { some = first.0; digits = All-from_recursion (λ b. (48 ≤ b) × (b ≤ 57)) (decimal n) (decimal-digits n (omega (arith, small))); lead = first.2 }

-- by the first byte, and the length
abbrev mark : List ℕ → ℕ
mark word = get_or word 0 0

pub some_lead : (word : List ℕ) → (lead : Lead) × IsLead lead word
some_lead word = elim (tested_list word (codes "question")) [
  | inl e ↦ (leads.Question, e)
  | inr question ↦ elim (tested_list word (codes "output")) [
    | inl e ↦ (leads.Output, e)
    | inr output ↦ elim (tested_list word (codes "end")) [
      | inl e ↦ (leads.End, e)
      | inr end ↦ elim (tested_list word (codes "refuted")) [
        | inl e ↦ (leads.Closing, inl e)
        | inr refuted ↦ elim (tested_list word (codes "spent")) [
          | inl e ↦ (leads.Closing, inr (inl e))
          | inr spent ↦ elim (tested_list word (codes "satisfied")) [
            | inl e ↦ (leads.Closing, inr (inr e))
            | inr satisfied ↦ elim (tested_number word) [
              | inl h ↦ (leads.Number, h)
              | inr none ↦ (
                leads.Unknown,
                ((λ h. elim h [ inl e ↦ question e | inr (inl e) ↦ output e | inr (inr e) ↦ end e ]), (λ h. elim h [ inl e ↦ refuted e | inr (inl e) ↦ spent e | inr (inr e) ↦ satisfied e ]), none),
              )
            ]
          ]
        ]
      ]
    ]
  ]
]

first_byte : (word w : List ℕ) → word ≡ w → get_or word 0 0 ≡ get_or w 0 0
first_byte word w e = ap (λ z. get_or z 0 0) e

closing_byte : (word : List ℕ) → IsClosing word → (get_or word 0 0 ≡ 114) ⊎ (get_or word 0 0 ≡ 115)
closing_byte word (inl e) = inl (first_byte word (codes "refuted") e)
closing_byte word (inr (inl e)) = inr (first_byte word (codes "spent") e)
closing_byte word (inr (inr e)) = inr (first_byte word (codes "satisfied") e)

-- a first word says one thing
pub one_lead : (word : List ℕ) (a b : Lead) → IsLead a word → IsLead b word → a ≡ b
one_lead word leads.Question leads.Question h k = refl
one_lead word leads.Question leads.Closing h k = let f = first_byte word (codes "question") h in absurd (elim (closing_byte word k) [ inl e ↦ omega (arith, e, f) | inr e ↦ omega (arith, e, f) ])
one_lead word leads.Question leads.Output h k = let f = first_byte word (codes "question") h in let g = first_byte word (codes "output") k in absurd (omega (arith, f, g))
one_lead word leads.Question leads.End h k = let f = first_byte word (codes "question") h in let g = first_byte word (codes "end") k in absurd (omega (arith, f, g))
one_lead word leads.Question leads.Number h k = let f = first_byte word (codes "question") h in let g = number_first word k in absurd (omega (arith, f, g))
one_lead word leads.Question leads.Unknown h k = absurd (k.0 (inl h))
one_lead word leads.Closing leads.Question h k = let f = first_byte word (codes "question") k in absurd (elim (closing_byte word h) [ inl e ↦ omega (arith, e, f) | inr e ↦ omega (arith, e, f) ])
one_lead word leads.Closing leads.Closing h k = refl
one_lead word leads.Closing leads.Output h k = let f = first_byte word (codes "output") k in absurd (elim (closing_byte word h) [ inl e ↦ omega (arith, e, f) | inr e ↦ omega (arith, e, f) ])
one_lead word leads.Closing leads.End h k = let f = first_byte word (codes "end") k in absurd (elim (closing_byte word h) [ inl e ↦ omega (arith, e, f) | inr e ↦ omega (arith, e, f) ])
one_lead word leads.Closing leads.Number h k = let f = number_first word k in absurd (elim (closing_byte word h) [ inl e ↦ omega (arith, e, f) | inr e ↦ omega (arith, e, f) ])
one_lead word leads.Closing leads.Unknown h k = absurd (k.1 h)
one_lead word leads.Output leads.Question h k = let f = first_byte word (codes "output") h in let g = first_byte word (codes "question") k in absurd (omega (arith, f, g))
one_lead word leads.Output leads.Closing h k = let f = first_byte word (codes "output") h in absurd (elim (closing_byte word k) [ inl e ↦ omega (arith, e, f) | inr e ↦ omega (arith, e, f) ])
one_lead word leads.Output leads.Output h k = refl
one_lead word leads.Output leads.End h k = let f = first_byte word (codes "output") h in let g = first_byte word (codes "end") k in absurd (omega (arith, f, g))
one_lead word leads.Output leads.Number h k = let f = first_byte word (codes "output") h in let g = number_first word k in absurd (omega (arith, f, g))
one_lead word leads.Output leads.Unknown h k = absurd (k.0 (inr (inl h)))
one_lead word leads.End leads.Question h k = let f = first_byte word (codes "end") h in let g = first_byte word (codes "question") k in absurd (omega (arith, f, g))
one_lead word leads.End leads.Closing h k = let f = first_byte word (codes "end") h in absurd (elim (closing_byte word k) [ inl e ↦ omega (arith, e, f) | inr e ↦ omega (arith, e, f) ])
one_lead word leads.End leads.Output h k = let f = first_byte word (codes "end") h in let g = first_byte word (codes "output") k in absurd (omega (arith, f, g))
one_lead word leads.End leads.End h k = refl
one_lead word leads.End leads.Number h k = let f = first_byte word (codes "end") h in let g = number_first word k in absurd (omega (arith, f, g))
one_lead word leads.End leads.Unknown h k = absurd (k.0 (inr (inr h)))
one_lead word leads.Number leads.Question h k = let f = number_first word h in let g = first_byte word (codes "question") k in absurd (omega (arith, f, g))
one_lead word leads.Number leads.Closing h k = let f = number_first word h in absurd (elim (closing_byte word k) [ inl e ↦ omega (arith, e, f) | inr e ↦ omega (arith, e, f) ])
one_lead word leads.Number leads.Output h k = let f = number_first word h in let g = first_byte word (codes "output") k in absurd (omega (arith, f, g))
one_lead word leads.Number leads.End h k = let f = number_first word h in let g = first_byte word (codes "end") k in absurd (omega (arith, f, g))
one_lead word leads.Number leads.Number h k = refl
one_lead word leads.Number leads.Unknown h k = absurd (k.2 h)
one_lead word leads.Unknown leads.Question h k = absurd (h.0 (inl k))
one_lead word leads.Unknown leads.Closing h k = absurd (h.1 k)
one_lead word leads.Unknown leads.Output h k = absurd (h.0 (inr (inl k)))
one_lead word leads.Unknown leads.End h k = absurd (h.0 (inr (inr k)))
one_lead word leads.Unknown leads.Number h k = absurd (h.2 k)
one_lead word leads.Unknown leads.Unknown h k = refl

-- ---- lines as words

-- one last byte
pub without_last : (a b : List ℕ) (x : ℕ) → a ++ x ∷ [] ≡ b ++ x ∷ [] → a ≡ b
without_last [] [] x e = refl
without_last [] (b ∷ []) x e = let k = ap length e in absurd (omega arith)
without_last [] (b ∷ c ∷ ys) x e = let k = ap length e in absurd (omega arith)
without_last (a ∷ []) [] x e = let k = ap length e in absurd (omega arith)
without_last (a ∷ c ∷ xs) [] x e = let k = ap length e in absurd (omega arith)
without_last (a ∷ xs) (b ∷ ys) x e = let p : a ≡ b = cc in let q : xs ++ x ∷ [] ≡ ys ++ x ∷ [] = cc in λ i. p i ∷ without_last xs ys x q i

pub line_of_words : (line : List ℕ) (ws : List (List ℕ)) → words line ≡ ws → words_text ws ≡ line ++ 10 ∷ []
line_of_words line ws e = ap (λ z. join_with_byte 32 z ++ 10 ∷ []) (sym e) ∙ ap (λ z. z ++ 10 ∷ []) (join-pieces 32 line)

pub words_of_line : (line : List ℕ) (ws : List (List ℕ)) → 0 < length ws → AllByRecursion (Without 32) ws → words_text ws ≡ line ++ 10 ∷ [] → words line ≡ ws
words_of_line line ws some plain e = ap words (sym (without_last (join_with_byte 32 ws) line 10 e)) ∙ pieces-join 32 ws some plain

-- ---- questions

whole_line : SpellsLine (ℕ × (Size × Unit {0})) (λ p. ((p.0 ≤ 63) × (IsSize p.1.0 × Unit {0})) × (p.1.0.rows * p.1.0.cols ≤ 32768)) (λ p. codes "question" ∷ decimal p.0 ∷ size_text p.1.0 ∷ [])
whole_line = only (λ p. p.1.0.rows * p.1.0.cols ≤ 32768) (λ p. tested_le (p.1.0.rows * p.1.0.cols) 32768) (after (codes "question") refl (then (numbers 63 (omega arith)) (then sizes nothing)))

array_line : SpellsLine (Defects × Unit {0}) (λ p. IsArray p.0 × Unit {0}) (λ p. size_text p.0.size ∷ array_text p.0 ∷ [])
array_line =
    then_of (λ p. p.0.size) (λ p h. size_of_array p.0 h.0) sizes (λ s. told_as (λ p h. ((h.0.0, h.1), h.0.1)) (λ p h. ((h.0.0, h.1), h.0.1)) (then (arrays s) nothing))

marked_line : SpellsLine (ℕ × (Defects × Unit {0})) (λ p. (p.0 ≤ 63) × (IsArray p.1.0 × Unit {0})) (λ p. codes "question" ∷ decimal p.0 ∷ size_text p.1.0.size ∷ array_text p.1.0 ∷ [])
marked_line = after (codes "question") refl (then (numbers 63 (omega arith)) array_line)

abbrev IsAskedOf : ℕ × Target → Type 0
IsAskedOf p = (p.0 ≤ 63) × IsTarget p.1

abbrev words_for : ℕ × Target → List (List ℕ)
words_for p = question_words p.0 p.1

same_question : (m n : ℕ) (s t : Target) → IsAskedOf (m, s) → IsAskedOf (n, t) → question_words m s ≡ question_words n t → ◌≡◌ {A = ℕ × Target} (m, s) (n, t)
same_question m n (Whole s) (Whole t) p q e = ap (λ z. (z.0, Whole z.1.0)) (whole_line.same (m, (s, tt)) (n, (t, tt)) ((p.0, (p.1.0, tt)), p.1.1) ((q.0, (q.1.0, tt)), q.1.1) e)
same_question m n (Marked a) (Marked b) p q e = ap (λ z. (z.0, Marked z.1.0)) (marked_line.same (m, (a, tt)) (n, (b, tt)) (p.0, (p.1, tt)) (q.0, (q.1, tt)) e)
same_question m n (Whole s) (Marked b) p q e = let k = ap length e in absurd (omega (arith, k))
same_question m n (Marked a) (Whole t) p q e = let k = ap length e in absurd (omega (arith, k))

plain_question : (at : ℕ) → at < 33 → (n : ℕ) (t : Target) → IsAskedOf (n, t) → AllByRecursion (Without at) (question_words n t)
plain_question at h n (Whole s) p = whole_line.plain at h (n, (s, tt)) ((p.0, (p.1.0, tt)), p.1.1)
plain_question at h n (Marked a) p = marked_line.plain at h (n, (a, tt)) (p.0, (p.1, tt))

tested_question : (ws : List (List ℕ)) → Tested ((p : ℕ × Target) × IsAskedOf p × (ws ≡ words_for p))
tested_question ws = elim (whole_line.tested ws) [
  | inl (p, h, e) ↦ inl ((p.0, Whole p.1.0), (h.0.0, (h.0.1.0, h.1)), e)
  | inr whole ↦ elim (marked_line.tested ws) [
    | inl (p, h, e) ↦ inl ((p.0, Marked p.1.0), (h.0, h.1.0), e)
    | inr marked ↦ inr (λ (p, h, e). neither whole marked p.0 p.1 h e)
  ]
] where
  neither : (((p : ℕ × (Size × Unit {0})) × (((p.0 ≤ 63) × (IsSize p.1.0 × Unit {0})) × (p.1.0.rows * p.1.0.cols ≤ 32768)) × (ws ≡ codes "question" ∷ decimal p.0 ∷ size_text p.1.0 ∷ [])) → ⊥)
      → (((p : ℕ × (Defects × Unit {0})) × ((p.0 ≤ 63) × (IsArray p.1.0 × Unit {0})) × (ws ≡ codes "question" ∷ decimal p.0 ∷ size_text p.1.0.size ∷ array_text p.1.0 ∷ [])) → ⊥)
      → (n : ℕ) (t : Target) → IsAskedOf (n, t) → ws ≡ question_words n t → ⊥
  neither whole marked n (Whole s) h e = whole ((n, (s, tt)), ((h.0, (h.1.0, tt)), h.1.1), e)
  neither whole marked n (Marked a) h e = marked ((n, (a, tt)), (h.0, (h.1, tt)), e)

pub questions : SpellsLine (ℕ × Target) IsAskedOf words_for
questions = record { same = λ x y p q e. same_question x.0 y.0 x.1 y.1 p q e; plain = λ at h x p. plain_question at h x.0 x.1 p; tested = λ ws. tested_question ws }

target_joined : (t : Target) → join_with_byte 32 (target_words t) ≡ target_text t
target_joined (Whole s) = refl
target_joined (Marked a) = refl

pub question_line : (n : ℕ) (t : Target) → words_text (question_words n t) ≡ question_text n t
unfolding question_text
question_line n (Whole s) = ap (λ z. codes "question " ++ z) (append_assoc (decimal n) (32 ∷ size_text s) (10 ∷ []))
question_line n (Marked a) = ap (λ z. codes "question " ++ z) (append_assoc (decimal n) (32 ∷ (size_text a.size ++ 32 ∷ array_text a)) (10 ∷ []))

some_question : (n : ℕ) (t : Target) → 0 < length (question_words n t)
some_question n t = omega arith

-- ---- closing lines

spent_line : SpellsLine (ℕ × Unit {0}) (λ p. (p.0 ≤ 200000) × Unit {0}) (λ p. codes "spent" ∷ decimal p.0 ∷ [])
spent_line = after (codes "spent") refl (then (numbers 200000 (omega arith)) nothing)

abbrev first_of : List (List ℕ) → ℕ
first_of ws = get_or (get_or ws 0 []) 1 0

same_close : (c d : Close) → IsClose c → IsClose d → close_words c ≡ close_words d → c ≡ d
same_close Refuted Refuted p q e = refl
same_close (Spent m) (Spent n) p q e = ap (λ z. Spent z.0) (spent_line.same (m, tt) (n, tt) (p, tt) (q, tt) e)
same_close Satisfied Satisfied p q e = refl
same_close Refuted (Spent n) p q e = absurd (omega (arith, ap first_of e))
same_close Refuted Satisfied p q e = absurd (omega (arith, ap first_of e))
same_close (Spent m) Refuted p q e = absurd (omega (arith, ap first_of e))
same_close (Spent m) Satisfied p q e = absurd (omega (arith, ap first_of e))
same_close Satisfied Refuted p q e = absurd (omega (arith, ap first_of e))
same_close Satisfied (Spent n) p q e = absurd (omega (arith, ap first_of e))

plain_close : (at : ℕ) → at < 33 → (c : Close) → IsClose c → AllByRecursion (Without at) (close_words c)
plain_close at h Refuted p = (after (codes "refuted") refl nothing).plain at h tt tt
plain_close at h (Spent n) p = spent_line.plain at h (n, tt) (p, tt)
plain_close at h Satisfied p = (after (codes "satisfied") refl nothing).plain at h tt tt

pub no_close : (ws : List (List ℕ)) → ws ≢ close_words Refuted → ws ≢ close_words Satisfied → ((n : ℕ) → n ≤ 200000 → ws ≢ close_words (Spent n)) → (c : Close) → IsClose c → ws ≢ close_words c
no_close ws refuted satisfied spent Refuted h e = refuted e
no_close ws refuted satisfied spent (Spent n) h e = spent n h e
no_close ws refuted satisfied spent Satisfied h e = satisfied e

tested_close : (ws : List (List ℕ)) → Tested ((c : Close) × IsClose c × (ws ≡ close_words c))
tested_close ws = elim ((after (codes "refuted") refl nothing).tested ws) [
  | inl (x, p, e) ↦ inl (Refuted, tt, e)
  | inr refuted ↦ elim ((after (codes "satisfied") refl nothing).tested ws) [
    | inl (x, p, e) ↦ inl (Satisfied, tt, e)
    | inr satisfied ↦ elim (spent_line.tested ws) [
      | inl (n, p, e) ↦ inl (Spent n.0, p.0, e)
      | inr spent ↦ inr (λ (c, h, e). no_close ws (λ f. refuted (tt, tt, f)) (λ f. satisfied (tt, tt, f)) (λ n few f. spent ((n, tt), (few, tt), f)) c h e)
    ]
  ]
]

pub closes : SpellsLine Close IsClose close_words
closes = record { same = λ x y p q e. same_close x y p q e; plain = λ at h x p. plain_close at h x p; tested = λ ws. tested_close ws }

pub close_line : (c : Close) → words_text (close_words c) ≡ close_text c
close_line Refuted = refl
close_line (Spent n) = append_assoc (codes "spent ") (decimal n) (10 ∷ [])
close_line Satisfied = refl

pub some_close : (c : Close) → 0 < length (close_words c)
some_close Refuted = omega arith
some_close (Spent n) = omega arith
some_close Satisfied = omega arith

-- ---- rails

pub rails_spelled : SpellsLine (ℕ × Unit {0}) (λ p. (p.0 ≤ 1048575) × Unit {0}) (λ p. codes "rails" ∷ decimal p.0 ∷ [])
rails_spelled = after (codes "rails") refl (then (numbers 1048575 (omega arith)) nothing)

pub rails_line : (n : ℕ) → words_text (codes "rails" ∷ decimal n ∷ []) ≡ rails_text n
rails_line n = append_assoc (codes "rails ") (decimal n) (10 ∷ [])

-- ---- lines of these forms, by their words and by their text

pub question_of_words : (line : List ℕ) (n : ℕ) (t : Target) → words line ≡ question_words n t → question_text n t ≡ line ++ 10 ∷ []
question_of_words line n t e = sym (question_line n t) ∙ line_of_words line (question_words n t) e

pub words_of_question : (line : List ℕ) (n : ℕ) (t : Target) → IsAskedOf (n, t) → question_text n t ≡ line ++ 10 ∷ [] → words line ≡ question_words n t
words_of_question line n t h e = words_of_line line (question_words n t) (some_question n t) (questions.plain 32 (omega arith) (n, t) h) (question_line n t ∙ e)

pub close_of_words : (line : List ℕ) (c : Close) → words line ≡ close_words c → close_text c ≡ line ++ 10 ∷ []
close_of_words line c e = sym (close_line c) ∙ line_of_words line (close_words c) e

pub words_of_close : (line : List ℕ) (c : Close) → IsClose c → close_text c ≡ line ++ 10 ∷ [] → words line ≡ close_words c
words_of_close line c h e = words_of_line line (close_words c) (some_close c) (closes.plain 32 (omega arith) c h) (close_line c ∙ e)

pub rails_of_words : (line : List ℕ) (n : ℕ) → words line ≡ codes "rails" ∷ decimal n ∷ [] → rails_text n ≡ line ++ 10 ∷ []
rails_of_words line n e = sym (rails_line n) ∙ line_of_words line (codes "rails" ∷ decimal n ∷ []) e

pub words_of_rails : (line : List ℕ) (n : ℕ) → n ≤ 1048575 → rails_text n ≡ line ++ 10 ∷ [] → words line ≡ codes "rails" ∷ decimal n ∷ []
words_of_rails line n h e = words_of_line line (codes "rails" ∷ decimal n ∷ []) (omega arith) (rails_spelled.plain 32 (omega arith) (n, tt) (h, tt)) (rails_line n ∙ e)

pub tested_question_line : (line : List ℕ) → Tested (IsQuestionLine line)
tested_question_line line = elim (questions.tested (words line)) [
  | inl (p, h, e) ↦ inl (p.0, p.1, h.0, h.1, question_of_words line p.0 p.1 e)
  | inr none ↦ inr (λ (n, t, few, is, e). none ((n, t), (few, is), words_of_question line n t (few, is) e))
]

pub tested_closing_line : (line : List ℕ) → Tested (IsClosingLine line)
tested_closing_line line = elim (closes.tested (words line)) [
  | inl (c, h, e) ↦ inl (c, h, close_of_words line c e)
  | inr none ↦ inr (λ (c, h, e). none (c, h, words_of_close line c h e))
]

pub tested_rails_line : (line : List ℕ) → Tested (IsRailsLine line)
tested_rails_line line = elim (rails_spelled.tested (words line)) [
  | inl (p, h, e) ↦ inl (p.0, h.0, rails_of_words line p.0 e)
  | inr none ↦ inr (λ (n, h, e). none ((n, tt), (h, tt), words_of_rails line n h e))
]

pub tested_title_line : (line : List ℕ) → Tested (IsTitleLine line)
tested_title_line line = elim (tested_list (title_text One) (line ++ 10 ∷ [])) [
  | inl e ↦ inl (One, e)
  | inr one ↦ elim (tested_list (title_text Two) (line ++ 10 ∷ [])) [
    | inl e ↦ inl (Two, e)
    | inr two ↦ inr (λ (v, e). neither one two v e)
  ]
] where
  neither : title_text One ≢ line ++ 10 ∷ [] → title_text Two ≢ line ++ 10 ∷ [] → (v : Version) → title_text v ≡ line ++ 10 ∷ [] → ⊥
  neither one two One e = one e
  neither one two Two e = two e

pub same_title : (v w : Version) → title_text v ≡ title_text w → v ≡ w
same_title One One e = refl
same_title Two Two e = refl
same_title One Two e = absurd (omega (arith, ap (λ z. get_or z 16 0) e))
same_title Two One e = absurd (omega (arith, ap (λ z. get_or z 16 0) e))

-- ---- steps

tested_above_0 : (h : ℤ) → Tested (IsAbove0 h)
tested_above_0 (pos n) = tested_lt 0 n
tested_above_0 (negsuc n) = inr (λ h. h)

same_step : (a b : Step) → Some (Add a) ≡ Some (Add b) → a ≡ b
same_step a b e = cc

-- a line is that of one step at most
pub one_step : (line : List ℕ) (a b : Step) → IsLineOf line a → IsLineOf line b → a ≡ b
one_step line a b h k = same_step a b (sym (kind-line line a h) ∙ kind-line line b k)

pub tested_step_line : (line : List ℕ) → Tested (IsStepLine line)
tested_step_line line = by (kind_of (words_of line)) refl where
  read : (s : Step) → kind_of (words_of line) ≡ Some (Add s) → Tested (IsStepLine line)
  read s f = elim (tested_list (step_text s.id s.clause s.hints) (line ++ 10 ∷ [])) [
    | inl e ↦ elim (tested_all IsAbove0 tested_above_0 s.hints) [
      | inl positive ↦ inl (s, record { is_step = kind-is_step (words_of line) s f; positive = positive }, record { is_step = kind-is_step (words_of line) s f; text = e })
      | inr none ↦ inr (λ (t, w, k). none (subst (λ (z : Step). All IsAbove0 z.hints) (same_step t s (sym (kind-line line t k) ∙ f)) w.positive))
    ]
    | inr other ↦ inr (λ (t, w, k). other (subst (λ (z : Step). step_text z.id z.clause z.hints ≡ line ++ 10 ∷ []) (same_step t s (sym (kind-line line t k) ∙ f)) k.text))
  ]

  by : (o : _) → kind_of (words_of line) ≡ o → Tested (IsStepLine line)
  by None f = inr (λ (t, w, k). let e = sym (kind-line line t k) ∙ f in absurd cc)
  by (Some (Add s)) f = read s f
  by (Some (Delete ids)) f = inr (λ (t, w, k). let e = sym (kind-line line t k) ∙ f in absurd cc)

-- the line of a step, without its line feed
abbrev pub step_line : Step → List ℕ
step_line s = decimal s.id ++ 32 ∷ (literals_text s.clause ++ (48 ∷ 32 ∷ (hints_text s.hints ++ 48 ∷ [])))

pub step-line : (s : Step) → step_text s.id s.clause s.hints ≡ step_line s ++ 10 ∷ []
step-line s =
    append_assoc (decimal s.id) (32 ∷ []) (literals_text s.clause ++ end_text s.hints)
    ∙ ap (λ z. decimal s.id ++ 32 ∷ (literals_text s.clause ++ (48 ∷ 32 ∷ z))) (sym (append_assoc (hints_text s.hints) (48 ∷ []) (10 ∷ [])))
    ∙ ap (λ z. decimal s.id ++ 32 ∷ z) (sym (append_assoc (literals_text s.clause) (48 ∷ 32 ∷ (hints_text s.hints ++ 48 ∷ [])) (10 ∷ [])))
    ∙ sym (append_assoc (decimal s.id) (32 ∷ (literals_text s.clause ++ (48 ∷ 32 ∷ (hints_text s.hints ++ 48 ∷ [])))) (10 ∷ []))

-- the line of a step is its identifier and more words
step_behind : (line : List ℕ) (s : Step) → IsLineOf line s → (rest : List ℕ) × (line ≡ decimal s.id ++ 32 ∷ rest)
step_behind line s h = (literals_text s.clause ++ (48 ∷ 32 ∷ (hints_text s.hints ++ 48 ∷ [])), without_last line (step_line s) 10 (sym h.text ∙ step-line s))

pub step_number : (line : List ℕ) (s : Step) → IsLineOf line s → IsNumber (first_word line)
step_number line s h =
    let found = step_behind line s h in
    let small : s.id < 2 ^ 32 = let few = h.is_step.id.1 in omega (arith, few) in
    let front = pieces-cut 32 (decimal s.id) found.0 (Without-decimal 32 s.id small (inl (omega arith))) in
    subst IsNumber (sym (first_is line (decimal s.id) (words found.0) (ap words found.1 ∙ front))) (decimal_number s.id small)
