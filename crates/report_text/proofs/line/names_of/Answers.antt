use Rattle.std.proofs.Common.{◌+◌, ◌≡◌, ap, ◌∙◌, subst, arith, ℕ, sym, refl, ◌∷◌}
use Rattle.std.proofs.lemmas.Bool.{false≢true}
use Rattle.pla_reader.specs.Name.{IsName}
use Rattle.report_text.specs.Pieces.{words, words_left}
use Rattle.report_text.proofs.NamesLaws.{NamesRead, NamesRead-push, no_names-word, no_names-many, all_names}
use Rattle.report_text.proofs.line.names_of.Goals as goal

pub returns-in_default-new : goal.returns-in_default-new
returns-in_default-new c =
    no_names-word _ _ _ c.word_at.result.0.now _ c.loop-named._named c.loop-named.invariant c.word_at.ensures
    (λ is. false≢true (c.in_default-new.ensures.named.1 (subst IsName (sym c.in_ok-from_slice.ensures.items) is)))

pub returns-in-None : goal.returns-in-None
returns-in-None c =
    let name = c.in-Some-new.ensures in
    all_names _ _ (c.loop-named._named + 1)
    (NamesRead-push _ _ _ c.word_at.result.0.now _ _ c.in-Some-new.name c.loop-named._named c.loop-named.invariant (c.word_at.ensures ∙ ap (λ o. c.word_at.result.0.now ∷ words_left o) c.in-None.is)
    (c.in-Some-new.ensures.same ∙ c.in_ok-from_slice.ensures.items) (subst IsName c.in_ok-from_slice.ensures.items (c.in-Some-new.ensures.named.0 refl)) c.in_ok-push.ensures.items)
    (omega arith) (omega arith)

pub loop-named-preserved : goal.loop-named-preserved
loop-named-preserved c =
    NamesRead-push _ _ _ c.word_at.result.0.now _ _ c.in-Some-new.name c.loop-named._named c.loop-named.invariant (c.word_at.ensures ∙ ap (λ o. c.word_at.result.0.now ∷ words_left o) c.in-Some-rest.is)
    (c.in-Some-new.ensures.same ∙ c.in_ok-from_slice.ensures.items) (subst IsName c.in_ok-from_slice.ensures.items (c.in-Some-new.ensures.named.0 refl)) c.in_ok-push.ensures.items

pub returns : goal.returns
returns c =
    let end : c.loop-named._named ≡ 10 = omega arith in
    no_names-many _ c.loop-named.bytes.now _ (subst (λ (n : ℕ). NamesRead (words c.args.line.now) (words c.loop-named.bytes.now) c.loop-named.names.items n) end c.loop-named.invariant)
