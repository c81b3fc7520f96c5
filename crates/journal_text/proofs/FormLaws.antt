-- Questions and closing lines, word by word.
use Rattle.std.proofs.Common.{◌≡◌, ◌≢◌, ℕ, ◌*◌, ◌<◌, ◌≤◌, List, [], ◌∷◌, length, sym, ap, ◌∙◌, subst, arith, codes, None, Some, Ok, Err, Result}
use Rattle.std.specs.Prelude.{IfOk, MatchOption}
use Rattle.std.specs.declared.option.Option.{Option}
use Rattle.std.specs.List.{join_with_byte}
use Rattle.lattice_grid.specs.Defects.{Defects, IsArray}
use Rattle.lattice_grid.specs.Rectangle.{Size, IsSize}
use Rattle.report_text.specs.Cells.{size_text, array_text}
use Rattle.report_text.specs.Pieces.{words}
use Rattle.report_text.proofs.Tools.{join-pieces, pieces-some, sizes, size_of_array}
use Rattle.journal_text.specs.Bounds.{IsTarget, IsClose}
use Rattle.journal_text.specs.Lines.{target_words, close_words}
use Rattle.journal_text.specs.declared.target.Close.{Close}
use Rattle.journal_text.specs.declared.target.Close.TheVariants.{Refuted, Spent, Satisfied}
use Rattle.journal_text.specs.declared.target.Target.{Target}
use Rattle.journal_text.specs.declared.target.Target.TheVariants.{Whole, Marked}

pub no_close_behind : (line : List ℕ) → line ≢ codes "refuted" → line ≢ codes "satisfied" → ((w : List ℕ) (ws : List (List ℕ)) → words line ≢ codes "spent" ∷ w ∷ ws) → (c : Close) → IsClose c → words line ≢ close_words c
no_close_behind line refuted satisfied spent Refuted h e = refuted (sym (join-pieces 32 line) ∙ ap (join_with_byte 32) e)
no_close_behind line refuted satisfied spent (Spent n) h e = spent _ [] e
no_close_behind line refuted satisfied spent Satisfied h e = satisfied (sym (join-pieces 32 line) ∙ ap (join_with_byte 32) e)

headed : {X : Type 0} (x y : X) (xs ys : List X) → x ∷ xs ≡ y ∷ ys → (x ≡ y) × (xs ≡ ys)
headed x y xs ys e = (cc, cc)

pub no_large : (line w : List ℕ) (s : Size) → IsSize s → words line ≡ w ∷ [] → w ≡ size_text s → 32768 < s.rows * s.cols → (t : Target) → IsTarget t → words line ≡ target_words t → ⊥
no_large line w s is one same large (Whole u) h e =
    let first = (headed w (size_text u) [] [] (sym one ∙ e)).0 in
    let size = sizes.same u s h.0 is (sym first ∙ same) in
    let few = subst (λ (z : Size). z.rows * z.cols ≤ 32768) size h.1 in
    omega (arith, few, large)
no_large line w s is one same large (Marked a) h e = let k = ap length (sym one ∙ e) in omega (arith, k)

pub marked_target : {E : Type 0} (line w rest : List ℕ) (s : Size) (r : Result (Option Target) E) → IsSize s → words line ≡ w ∷ words rest → w ≡ size_text s
    → IfOk r (λ found. MatchOption found ((a : Defects) → IsArray a → a.size ≡ s → words rest ≢ array_text a ∷ []) (λ target. (a : Defects) × IsArray a × (a.size ≡ s) × (words rest ≡ array_text a ∷ []) × (target ≡ Marked a)))
    → IfOk r (λ found. MatchOption found ((target : Target) → IsTarget target → words line ≢ target_words target) (λ target. IsTarget target × (words line ≡ target_words target)))
marked_target line w rest s (Err d) is both same h = tt
marked_target line w rest s (Ok None) is both same none = other where
  other : (t : Target) → IsTarget t → words line ≢ target_words t
  other (Whole u) h e =
      let parts = headed w (size_text u) (words rest) [] (sym both ∙ e) in
      let k = ap length parts.1 in
      let some = pieces-some 32 rest in
      omega (arith, k, some)
  other (Marked a) h e =
      let parts = headed w (size_text a.size) (words rest) (array_text a ∷ []) (sym both ∙ e) in
      none a h (sizes.same a.size s (size_of_array a h) is (sym parts.0 ∙ same)) parts.1
marked_target line w rest s (Ok (Some t)) is both same (a, array, size, tail, e) =
    subst (λ z. IsTarget z × (words line ≡ target_words z)) (sym e) (array, both ∙ (λ i. (same ∙ ap size_text (sym size)) i ∷ tail i))
