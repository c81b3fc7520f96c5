-- A literal that is forced has a mark.
use Rattle.std.proofs.Common.{◌≡◌, ℕ, ◌<◌, true, List, [], ◌∷◌, inl, inr, subst}
use Rattle.std.specs.List.{AllByRecursion}
use Rattle.std.proofs.lemmas.List.Elements.{recursion_from_All}
use Rattle.clause_core.specs.Literal.{Literal, number, flip, has}
use Rattle.clause_core.proofs.Tools.{has-cases}
use Rattle.lrat_replay.specs.Status.{Known, status}
use Rattle.lrat_replay.specs.declared.status.Status.TheVariants.{Forces}
use Rattle.lrat_replay.specs.Hints.{FitsIn}
use Rattle.lrat_replay.proofs.StatusLaws.{forces-is}

pub has_all : (P : Literal → Type 0) (c : List Literal) (l : Literal) → AllByRecursion P c → has c l ≡ true → P l
has_all P [] l a h = absurd (cc)
has_all P (x ∷ xs) l a h = elim (has-cases x l xs h) [ inl e ↦ subst P e a.0 | inr e ↦ has_all P xs l a.1 e ]

pub forced_fits : (width : ℕ) (known : Known) (c : List Literal) (u : Literal) → FitsIn width c → status known c ≡ Forces u → number u < width
forced_fits width known c u f t = (has_all (λ l. number l < width × number (flip l) < width) c u (recursion_from_All (λ l. number l < width × number (flip l) < width) c f) (forces-is known c u t).is_in).0
