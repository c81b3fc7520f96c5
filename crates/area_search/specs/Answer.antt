-- What a search answers.
use Rattle.std.specs.Prelude.{◌≡◌, ◌⊎◌, ℕ, ◌<◌, List, []}
use Rattle.cube_core.specs.Function.{Function}
use Rattle.lattice_grid.specs.Lattice.{Lattice}
use Rattle.dual_product.specs.Dual.{dual_of}
use Rattle.finder_set.specs.Finders.{AreAsked}
use Rattle.finder_set.specs.declared.improve.Dropped.{Dropped}
use Rattle.lattice_grid.specs.Rails.{IsFull}
use Rattle.journal_text.specs.Good.{LacksRails}
use Rattle.journal_text.specs.Least.{area, IsRight, NoneBelow, IsNoLarger}
use Rattle.report_text.specs.declared.answer.Answer.{Answer}
use Rattle.report_text.specs.declared.answer.Answer.TheVariants.{Found, Minimum, Undecided, Mapped, NoneMapped, MapUndecided, NoRails}

-- A right lattice, no larger than the one where the search began, and no right one below this area.
pub record IsLeast (rails : ℕ) (f : Function) (g : Lattice) (least : ℕ) : Type 0 where
  pub right : IsRight rails f g
  pub no_larger : IsNoLarger rails f g
  pub none_below : NoneBelow rails f least

-- What an answer says of lattices alone; a search has three answers.
abbrev pub HoldsOfLattices : ℕ → Function → Answer → Type 0
HoldsOfLattices rails f (Found g) = ⊥
HoldsOfLattices rails f (Minimum g) = IsLeast rails f g (area g)
HoldsOfLattices rails f (Undecided g least at after) = IsLeast rails f g least × (least < area g)
HoldsOfLattices rails f (Mapped g a) = ⊥
HoldsOfLattices rails f (NoneMapped a) = ⊥
HoldsOfLattices rails f (MapUndecided a after) = ⊥
HoldsOfLattices rails f (NoRails x y) = LacksRails rails f x y

-- Where all literals are allowed the finders were asked, and those dropped that proposed a wrong lattice smaller than the dual product; else they are as they were.
abbrev pub AreUsed : {F : Type 0} → (F → ℕ) → (F → ℕ) → ℕ → Function → List F → List F → List Dropped → Type 0
AreUsed begun left rails f old new dropped =
    (IsFull f.inputs rails × AreAsked begun left f (area (dual_of f)) old new dropped) ⊎ ((IsFull f.inputs rails → ⊥) × (new ≡ old) × (dropped ≡ []))
