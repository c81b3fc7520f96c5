use Rattle.std.proofs.Common.{Err, refl, ◌∷◌}
use Rattle.report_text.proofs.PutLaws.{IsPut-more, IsPut-stop, blanks_next, flat_map-end}
use Rattle.report_text.proofs.write.put_words.Goals as goal

pub returns-in_err-put_word : goal.returns-in_err-put_word
returns-in_err-put_word g c =
    IsPut-stop _ _ _ _ _ _ _ _ _ (Err c.in_err-put_word.field-0.0) c.from_residual.result _ _ _ _ refl c.from_residual.ensures.0 c.loop-word.invariant
    (blanks_next (λ x. 32 ∷ g.T.Spelled.text x) c.args.words.now c.loop-word.word-index c.word-item.result _ c.loop-word-test.true c.word-item.is) c.in_err-put_word.ensures

pub loop-word-preserved : goal.loop-word-preserved
loop-word-preserved g c =
    IsPut-more _ _ _ _ _ _ _ _ _ tt _ _ _ _ c.loop-word.invariant
    (blanks_next (λ x. 32 ∷ g.T.Spelled.text x) c.args.words.now c.loop-word.word-index c.word-item.result _ c.loop-word-test.true c.word-item.is) c.in_ok-put_word.ensures
