-- The text of a formula, by what is written next.
use Rattle.std.proofs.Common.{◌≡◌, ℕ, ◌+◌, ◌<◌, List, [], ◌++◌, length, drop, refl, sym, ap, ◌∙◌, subst, Some}
use Rattle.std.specs.Prelude.{slice_get}
use Rattle.std.specs.List.{flat_map}
use Rattle.std.specs.declared.option.Option.{Option}
use Rattle.std.proofs.lemmas.Option.{get_or_from_slice_get}
use Rattle.wire_io.specs.Told.{GainsFront}
use Rattle.wire_io.specs.Laws.{GainsFront-more}
use Rattle.wire_io.specs.Passing.{Passes}
use Rattle.wire_io.proofs.Tools.{IsPassed, IsPassed-none, IsPassed-more}
use Rattle.clause_core.specs.Literal.{Literal}
use Rattle.clause_core.specs.Formula.{Formula}
use Rattle.clause_core.specs.Cnf.{head_text, clause_text, cnf_text}
use Rattle.clause_core.proofs.PieceLaws.{flat_map-drop}

pub head-stop : (f : Formula) (vars clauses : ℕ) (held : List ℕ) (a b : Option (List ℕ)) → held ≡ [] → vars ≡ f.vars → clauses ≡ length f.clauses
    → GainsFront a b (held ++ head_text vars clauses) → GainsFront a b (cnf_text f)
unfolding cnf_text
head-stop f vars clauses held a b e p q h =
    GainsFront-more a b (head_text f.vars (length f.clauses)) (flat_map clause_text f.clauses) (subst (GainsFront a b) (λ i. e i ++ head_text (p i) (q i)) h)

pub head-then : (f : Formula) (vars clauses : ℕ) (held held' : List ℕ) (a b : Option (List ℕ)) → vars ≡ f.vars → clauses ≡ length f.clauses
    → Passes a b held held' (head_text vars clauses) → IsPassed a b held held' (flat_map clause_text f.clauses) (cnf_text f)
unfolding cnf_text
head-then f vars clauses held held' a b p q h =
    IsPassed-more a a b held held held' (cnf_text f) (cnf_text f) (head_text f.vars (length f.clauses)) (flat_map clause_text f.clauses) (IsPassed-none a held (cnf_text f)) refl
    (subst (Passes a b held held') (λ i. head_text (p i) (q i)) h)

-- one more clause
pub clauses-next : (clauses : List (List Literal)) (i : ℕ) (clause : List Literal) → i < length clauses → slice_get clauses i ≡ Some clause
    → flat_map clause_text (drop i clauses) ≡ clause_text clause ++ flat_map clause_text (drop (i + 1) clauses)
clauses-next clauses i clause h e =
    flat_map-drop clause_text clauses i clause h ∙ ap (λ c. clause_text c ++ flat_map clause_text (drop (i + 1) clauses)) (get_or_from_slice_get clauses i clause clause e)
