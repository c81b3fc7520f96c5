-- Sizes as words.
use Rattle.std.proofs.Common.{◌≡◌, ◌≢◌, ℕ, ◌*◌, ◌^◌, ◌<◌, ◌≤◌, inr, List, ◌∷◌, ◌++◌, sym, ap, ◌∙◌, subst, arith, Some, None}
use Rattle.std.specs.Fmt.{decimal}
use Rattle.lattice_grid.specs.Rectangle.{Size, IsSize}
use Rattle.std.specs.declared.option.Option.{Option}
use Rattle.std.specs.Option.{SomeIff, MatchOption}
use Rattle.report_text.specs.Cells.{size_text}
use Rattle.report_text.specs.Pieces.{Without, Cuts}
use Rattle.report_text.proofs.PiecesLaws.{same_cut, no_cut}
use Rattle.report_text.proofs.NumberLaws.{Without-decimal, same_number}

pub factor_le : (a b m : ℕ) → 1 ≤ b → a * b ≤ m → a ≤ m
factor_le a b m some few = grind arith

pub rows_small : (s : Size) → IsSize s → s.rows < 2 ^ 32
rows_small s h = let few = factor_le s.rows s.cols 1048576 h.some_cols h.few in omega (arith, few)

pub cols_small : (s : Size) → IsSize s → s.cols < 2 ^ 32
cols_small s h = let few = factor_le s.cols s.rows 1048576 h.some_rows (omega (arith, h.few)) in omega (arith, few)

pub no_size-whole : (word : List ℕ) → Without 120 word → (s : Size) → IsSize s → word ≢ size_text s
no_size-whole word h s is e = no_cut 120 word (decimal s.rows) (decimal s.cols) h e

-- the numbers of a size
pub size_parts : (word rows cols : List ℕ) → Cuts 120 word rows cols → (s : Size) → IsSize s → word ≡ size_text s → (rows ≡ decimal s.rows) × (cols ≡ decimal s.cols)
size_parts word rows cols h s is e =
    same_cut 120 rows (decimal s.rows) cols (decimal s.cols) h.first (Without-decimal 120 s.rows (rows_small s is) (inr (omega arith))) (sym h.text ∙ e)

pub no_size-rows : (word rows cols : List ℕ) → Cuts 120 word rows cols → ((n : ℕ) → n < 2 ^ 32 → rows ≢ decimal n) → (s : Size) → IsSize s → word ≢ size_text s
no_size-rows word rows cols h none s is e = none s.rows (rows_small s is) (size_parts word rows cols h s is e).0

pub no_size-cols : (word rows cols : List ℕ) → Cuts 120 word rows cols → ((n : ℕ) → n < 2 ^ 32 → cols ≢ decimal n) → (s : Size) → IsSize s → word ≢ size_text s
no_size-cols word rows cols h none s is e = none s.cols (cols_small s is) (size_parts word rows cols h s is e).1

pub size_numbers : (word rows cols : List ℕ) → Cuts 120 word rows cols → (m n : ℕ) → m < 2 ^ 32 → n < 2 ^ 32 → rows ≡ decimal m → cols ≡ decimal n
    → (s : Size) → IsSize s → word ≡ size_text s → (m ≡ s.rows) × (n ≡ s.cols)
size_numbers word rows cols h m n p q e f s is g =
    let parts = size_parts word rows cols h s is g in
    (same_number m s.rows p (rows_small s is) (sym e ∙ parts.0), same_number n s.cols q (cols_small s is) (sym f ∙ parts.1))

pub size_made : (word rows cols : List ℕ) → Cuts 120 word rows cols → (m n : ℕ) → rows ≡ decimal m → cols ≡ decimal n → word ≡ size_text (record { rows = m; cols = n })
size_made word rows cols h m n e f = h.text ∙ ap (λ w. w ++ 120 ∷ cols) e ∙ ap (λ w. decimal m ++ 120 ∷ w) f

-- what a word with two numbers is
pub size_read : (word rows cols : List ℕ) → Cuts 120 word rows cols → (m n : ℕ) → m < 2 ^ 32 → n < 2 ^ 32 → rows ≡ decimal m → cols ≡ decimal n
    → (o : Option Size) → SomeIff o (IsSize (record { rows = m; cols = n })) (record { rows = m; cols = n })
    → MatchOption o ((s : Size) → IsSize s → word ≢ size_text s) (λ s. IsSize s × (word ≡ size_text s))
size_read word rows cols h m n p q e f None no_size = λ s is g.
    let numbers = size_numbers word rows cols h m n p q e f s is g in
    no_size (subst IsSize (λ i. record { rows = sym numbers.0 i; cols = sym numbers.1 i }) is)
size_read word rows cols h m n p q e f (Some s) given =
    subst (λ (z : Size). IsSize z × (word ≡ size_text z)) (sym given.1) (given.0, size_made word rows cols h m n e f)
