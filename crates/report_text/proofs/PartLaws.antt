-- The parts of words and lines that are read one after another.
use Rattle.std.proofs.Common.{◌≡◌, ◌≢◌, ℕ, ◌+◌, ◌*◌, ◌^◌, ◌<◌, ◌≤◌, ◌⊎◌, inl, inr, List, [], ◌∷◌, ◌++◌, length, sym, ap, ◌∙◌, subst, arith, codes}
use Rattle.std.specs.Fmt.{decimal}
use Rattle.lattice_grid.specs.Rectangle.{Size, IsSize}
use Rattle.report_text.specs.Bounds.{IsBound, IsProof}
use Rattle.report_text.specs.Cells.{size_text, proof_text}
use Rattle.report_text.specs.Pieces.{Without, Cuts, words}
use Rattle.report_text.specs.declared.answer.Proof.{Proof}
use Rattle.report_text.proofs.NumberLaws.{same_number}
use Rattle.report_text.proofs.PiecesLaws.{same_cut, no_cut}
use Rattle.report_text.proofs.WordLaws.{sizes, Without-size}

-- what stands behind a first word
pub tails : {X : Type 0} (ws : List X) (v w : X) (xs ys : List X) → ws ≡ v ∷ xs → ws ≡ w ∷ ys → (v ≡ w) × (xs ≡ ys)
tails ws v w xs ys e f = (cc, cc)

-- ---- proofs

pub proof_parts : (word size number : List ℕ) → Cuts 58 word size number → (p : Proof) → IsProof p → word ≡ proof_text p → (size ≡ size_text p.shape) × (number ≡ decimal p.steps)
proof_parts word size number cut p is e =
    same_cut 58 size (size_text p.shape) number (decimal p.steps) cut.first (Without-size 58 p.shape is.size (omega arith) (λ f. omega (arith, f))) (sym cut.text ∙ e)

pub no_proof-whole : (word : List ℕ) → Without 58 word → (p : Proof) → IsProof p → word ≢ proof_text p
no_proof-whole word none p is e = no_cut 58 word (size_text p.shape) (decimal p.steps) none e

pub proof_made : (word size number : List ℕ) (shape : Size) (steps : ℕ) → Cuts 58 word size number → size ≡ size_text shape → number ≡ decimal steps → word ≡ proof_text (record { shape = shape; steps = steps })
proof_made word size number shape steps cut e f = cut.text ∙ ap (λ z. z ++ 58 ∷ number) e ∙ ap (λ z. size_text shape ++ 58 ∷ z) f

pub proof_small : (p : Proof) → IsProof p → p.steps < 2 ^ 32
proof_small p is = let few = is.few in omega (arith, few)

-- no proof has so few or so many steps
pub no_proof-steps : (word size number : List ℕ) (steps : ℕ) → Cuts 58 word size number → steps < 2 ^ 32 → number ≡ decimal steps → (steps < 1) ⊎ (2147483647 < steps) → (p : Proof) → IsProof p → word ≢ proof_text p
no_proof-steps word size number steps cut small e bad p is f =
    let same = same_number steps p.steps small (proof_small p is) (sym e ∙ (proof_parts word size number cut p is f).1) in
    let some = is.some in
    let few = is.few in
    elim bad [ inl low ↦ omega (arith, low, some, same) | inr high ↦ omega (arith, high, few, same) ]

-- ---- bounds

abbrev bound : ℕ → Size → ℕ → List (List ℕ)
bound least at n = codes "least" ∷ decimal least ∷ codes "at" ∷ size_text at ∷ codes "after" ∷ decimal n ∷ []

pub least_small : (least : ℕ) (at : Size) (n : ℕ) → IsBound least at n → least ≤ 1048576
least_small least at n is = let area = is.area in let few = is.size.few in omega (arith, area, few)

-- the area is another
pub no_bound-area : (ws ws2 ws3 ws4 ws5 ws6 : List (List ℕ)) (least : ℕ) (at : Size) (n : ℕ) → ws ≡ codes "least" ∷ ws2 → ws2 ≡ decimal least ∷ ws3 → ws3 ≡ codes "at" ∷ ws4 → ws4 ≡ size_text at ∷ ws5 → ws5 ≡ codes "after" ∷ ws6 → ws6 ≡ decimal n ∷ []
    → least < 2 ^ 32 → IsSize at → least ≢ at.rows * at.cols → (least' : ℕ) (at' : Size) (n' : ℕ) → IsBound least' at' n' → ws ≢ bound least' at' n'
no_bound-area ws ws2 ws3 ws4 ws5 ws6 least at n e1 e2 e3 e4 e5 e6 small is other least' at' n' is' f =
    let t1 = (tails ws _ _ _ _ e1 f).1 in
    let t2 = tails ws2 _ _ _ _ e2 t1 in
    let t3 = (tails ws3 _ _ _ _ e3 t2.1).1 in
    let t4 = tails ws4 _ _ _ _ e4 t3 in
    let few = least_small least' at' n' is' in
    let same = same_number least least' small (omega (arith, few)) t2.0 in
    let shape = sizes.same at at' is is'.size t4.0 in
    other (same ∙ is'.area ∙ ap (λ s. s.rows * s.cols) (sym shape))
