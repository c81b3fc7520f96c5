-- Words drawn one after another.
use Rattle.std.proofs.Common.{◌≡◌, ℕ, suc, ◌+◌, ◌-◌, ◌<◌, ◌≤◌, List, [], ◌∷◌, ◌++◌, map, refl, sym, ◌∙◌, subst, arith, append_assoc, append-nil, codes}
use Rattle.rand_core.specs.Stream.{Stream, next_u32}
use Rattle.trial_text.specs.Made.{drawn, left_after, digits_of, row_of, rows_of, text_of}
use Rattle.trial_text.specs.declared.plane.Plane.TheVariants.{Inputs, Outputs}

one_less : (end k : ℕ) → k < end → end - k ≡ suc (end - (k + 1))
one_less end k within = omega arith

-- the text with the digits that are still to be drawn stays whole
pub digit_drawn : (digit : ℕ → ℕ) (end k word : ℕ) (s s' : Stream) (text text' whole : List ℕ) → k < end → (word, s') ≡ next_u32 s → text' ≡ text ++ (digit word ∷ []) → text ++ map digit (drawn (end - k) s) ≡ whole → text' ++ map digit (drawn (end - (k + 1)) s') ≡ whole
unfolding drawn
digit_drawn digit end k word s s' text text' whole within next pushed before =
    let at : text ++ (digit (next_u32 s).0 ∷ map digit (drawn (end - (k + 1)) (next_u32 s).1)) ≡ whole = subst (λ n. text ++ map digit (drawn n s) ≡ whole) (one_less end k within) before in
    let here : text ++ (digit word ∷ map digit (drawn (end - (k + 1)) s')) ≡ whole = subst (λ p. text ++ (digit p.0 ∷ map digit (drawn (end - (k + 1)) p.1)) ≡ whole) (sym next) at in
    subst (λ t. t ++ map digit (drawn (end - (k + 1)) s') ≡ whole) (sym pushed) (append_assoc text (digit word ∷ []) (map digit (drawn (end - (k + 1)) s')) ∙ here)

pub word_left : (end k word : ℕ) (s s' whole : Stream) → k < end → (word, s') ≡ next_u32 s → left_after (end - k) s ≡ whole → left_after (end - (k + 1)) s' ≡ whole
unfolding left_after next_u32
word_left end k word s s' whole within next before =
    let at : left_after (end - (k + 1)) (next_u32 s).1 ≡ whole = subst (λ n. left_after n s ≡ whole) (one_less end k within) before in
    subst (λ p. left_after (end - (k + 1)) p.1 ≡ whole) (sym next) at

-- the text with the rows that are still to be drawn stays whole
pub row_drawn : (end k : ℕ) (s s' : Stream) (text text' whole : List ℕ) → k < end → s' ≡ left_after 22 s → text' ≡ text ++ row_of s → text ++ rows_of (end - k) s ≡ whole → text' ++ rows_of (end - (k + 1)) s' ≡ whole
unfolding rows_of drawn
row_drawn end k s s' text text' whole within next pushed before =
    let at : text ++ (row_of s ++ rows_of (end - (k + 1)) (left_after 22 s)) ≡ whole = subst (λ n. text ++ rows_of n s ≡ whole) (one_less end k within) before in
    let here : text ++ (row_of s ++ rows_of (end - (k + 1)) s') ≡ whole = subst (λ r. text ++ (row_of s ++ rows_of (end - (k + 1)) r) ≡ whole) (sym next) at in
    subst (λ t. t ++ rows_of (end - (k + 1)) s' ≡ whole) (sym pushed) (append_assoc text (row_of s) (rows_of (end - (k + 1)) s') ∙ here)

none_left : (end k : ℕ) → end ≤ k → end - k ≡ 0
none_left end k past = omega arith

all_left : (end : ℕ) → end - 0 ≡ end
all_left end = omega arith

-- after the last word the text is whole
pub digits_end : (digit : ℕ → ℕ) (end width k : ℕ) (s s' : Stream) (text before : List ℕ) → end ≤ k → end ≡ width → text ++ map digit (drawn (end - k) s') ≡ before ++ map digit (drawn (end - 0) s) → text ≡ before ++ map digit (drawn width s)
unfolding drawn
digits_end digit end width k s s' text before past is all =
    let here : text ++ [] ≡ before ++ map digit (drawn end s) = subst (λ n. text ++ map digit (drawn n s') ≡ before ++ map digit (drawn end s)) (none_left end k past) (subst (λ n. text ++ map digit (drawn (end - k) s') ≡ before ++ map digit (drawn n s)) (all_left end) all) in
    subst (λ n. text ≡ before ++ map digit (drawn n s)) is (sym (append-nil text) ∙ here)

pub words_end : (end width k : ℕ) (s s' : Stream) → end ≤ k → end ≡ width → left_after (end - k) s' ≡ left_after (end - 0) s → s' ≡ left_after width s
unfolding left_after
words_end end width k s s' past is all =
    let here : s' ≡ left_after end s = subst (λ n. left_after n s' ≡ left_after end s) (none_left end k past) (subst (λ n. left_after (end - k) s' ≡ left_after n s) (all_left end) all) in
    subst (λ n. s' ≡ left_after n s) is here

-- after the last row the text is whole
pub rows_end : (end k : ℕ) (s' : Stream) (text whole : List ℕ) → end ≤ k → text ++ rows_of (end - k) s' ≡ whole → text ≡ whole
unfolding rows_of
rows_end end k s' text whole past all =
    let here : text ++ [] ≡ whole = subst (λ n. text ++ rows_of n s' ≡ whole) (none_left end k past) all in
    sym (append-nil text) ∙ here

-- six words and sixteen are 22
pub both_left : (s : Stream) → left_after 16 (left_after 6 s) ≡ left_after 22 s
unfolding left_after
both_left s = refl

-- four pieces, one after another
four : (t0 a x b y : List ℕ) → (((t0 ++ a) ++ x) ++ b) ++ y ≡ t0 ++ (a ++ (x ++ (b ++ y)))
four t0 a x b y = append_assoc ((t0 ++ a) ++ x) b y ∙ append_assoc (t0 ++ a) x (b ++ y) ∙ append_assoc t0 a (x ++ (b ++ y))

-- the two planes and what parts them are a row
pub row_pushed : (s s' : Stream) (t0 t1 t2 t3 t4 : List ℕ) → t1 ≡ t0 ++ digits_of Inputs s → s' ≡ left_after 6 s → t2 ≡ t1 ++ (32 ∷ []) → t3 ≡ t2 ++ digits_of Outputs s' → t4 ≡ t3 ++ (10 ∷ []) → t4 ≡ t0 ++ row_of s
row_pushed s s' t0 t1 t2 t3 t4 first left blank second ended =
    let at2 : t2 ≡ (t0 ++ digits_of Inputs s) ++ (32 ∷ []) = subst (λ t. t2 ≡ t ++ (32 ∷ [])) first blank in
    let outputs : t3 ≡ t2 ++ digits_of Outputs (left_after 6 s) = subst (λ r. t3 ≡ t2 ++ digits_of Outputs r) left second in
    let at3 : t3 ≡ ((t0 ++ digits_of Inputs s) ++ (32 ∷ [])) ++ digits_of Outputs (left_after 6 s) = subst (λ t. t3 ≡ t ++ digits_of Outputs (left_after 6 s)) at2 outputs in
    subst (λ t. t4 ≡ t ++ (10 ∷ [])) at3 ended ∙ four t0 (digits_of Inputs s) (32 ∷ []) (digits_of Outputs (left_after 6 s)) (10 ∷ [])

pub row_left : (s s' s'' : Stream) → s' ≡ left_after 6 s → s'' ≡ left_after 16 s' → s'' ≡ left_after 22 s
row_left s s' s'' first second = subst (λ r. s'' ≡ left_after 16 r) first second ∙ both_left s

-- the head, the rows and the end are the text
pub text_ended : (k : ℕ) (s s' : Stream) (text text' : List ℕ) → 24 ≤ k → text ++ rows_of (24 - k) s' ≡ codes ".i 6\n.o 16\n" ++ rows_of 24 s → text' ≡ text ++ codes ".e\n" → text' ≡ text_of s
text_ended k s s' text text' past all ended =
    subst (λ t. text' ≡ t ++ codes ".e\n") (rows_end 24 k s' text (codes ".i 6\n.o 16\n" ++ rows_of 24 s) past all) ended ∙ append_assoc (codes ".i 6\n.o 16\n") (rows_of 24 s) (codes ".e\n")
