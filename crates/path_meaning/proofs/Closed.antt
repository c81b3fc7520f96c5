-- The cells that a side leads to: a test, closed under steps, and a walk to each of them.
use Rattle.std.proofs.Common.{◌≡◌, ℕ, ◌+◌, ◌*◌, ◌/◌, ◌%◌, ◌<◌, Bool, true, false, Option, Some, None, sym, ap, subst, arith}
use Rattle.std.proofs.lemmas.Bool.{false≢true}
use Rattle.std.proofs.lemmas.Nat.{mul-add-lt, div-mul-add, mod-mul-add}
use Rattle.lattice_grid.specs.declared.shape.Place.{Place}
use Rattle.lattice_grid.specs.Rectangle.{Size}
use Rattle.lattice_grid.specs.Path.{IsWithin}
use Rattle.path_meaning.proofs.Walks.{Walk, stop, next, join}
use Rattle.path_meaning.proofs.Reach.{leads, sound, leads_near, leads_on}
use Rattle.path_meaning.proofs.Decisions.{Test, place_eq}

module _ (s : Size) (Good : Place → Type 0) (Near : Place → Place → Type 0) (Here : Place → Type 0)
    (start : (p : Place) → Test (Good p × Here p)) (step : (p q : Place) → Test (Good p × (Near p q × Good q))) where
  -- one step from the side, which is None, or from a cell
  near : Option Place → Option Place → Bool
  near None None = false
  near None (Some q) = (start q).0
  near (Some p) None = false
  near (Some p) (Some q) = (step p q).0

  place : ℕ → Option Place
  place k = Some (record { row = k / s.cols; col = k % s.cols })

  pub reached : Place → Bool
  reached p = leads near place (s.rows * s.cols) None (Some p)

  abbrev Link : Option Place → Option Place → Type 0
  Link None None = Unit {0}
  Link None (Some q) = (p : Place) × Here p × Walk Good Near p q
  Link (Some p) None = ⊥
  Link (Some p) (Some q) = Walk Good Near p q

  link_near : (x y : Option Place) → near x y ≡ true → Link x y
  unfolding near
  link_near None None h = tt
  link_near None (Some q) h = let k = (start q).1.0 h in (q, k.1, stop k.0)
  link_near (Some p) None h = false≢true h
  link_near (Some p) (Some q) h = let k = (step p q).1.0 h in next k.0 k.1.0 (stop k.1.1)

  link_on : (x y z : Option Place) → Link x y → Link y z → Link x z
  link_on None None z l m = m
  link_on None (Some q) None l m = tt
  link_on None (Some q) (Some r) l m = (l.0, l.1, join Good Near l.2 m)
  link_on (Some p) None z l m = absurd l
  link_on (Some p) (Some q) None l m = m
  link_on (Some p) (Some q) (Some r) l m = join Good Near l m

  -- a walk leads from the side to each cell that is reached
  pub reached_walk : (p : Place) → reached p ≡ true → (o : Place) × Here o × Walk Good Near o p
  unfolding reached
  reached_walk p h = sound near place Link link_near link_on (s.rows * s.cols) None (Some p) h

  pub reached_start : (p : Place) → Good p → Here p → reached p ≡ true
  unfolding reached near
  reached_start p g h = leads_near near place (s.rows * s.cols) None (Some p) ((start p).1.1 (g, h))

  placed : (p : Place) → IsWithin s p → place (p.row * s.cols + p.col) ≡ Some p
  unfolding place
  placed p h = ap Some (place_eq (record { row = (p.row * s.cols + p.col) / s.cols; col = (p.row * s.cols + p.col) % s.cols }) p (div-mul-add p.row s.cols p.col h.1) (mod-mul-add p.row s.cols p.col h.1))

  pub reached_step : (p q : Place) → IsWithin s p → Good p → Near p q → Good q → reached p ≡ true → reached q ≡ true
  unfolding reached near
  reached_step p q within g n h r =
      let k = p.row * s.cols + p.col in
      let e = placed p within in
      let below : k < s.rows * s.cols = omega (arith, mul-add-lt p.row s.cols p.col s.rows within.0 within.1) in
      leads_on near place (s.rows * s.cols) k below None (Some q)
      (subst (λ x. leads near place (s.rows * s.cols) None x ≡ true) (sym e) r)
      (subst (λ x. leads near place (s.rows * s.cols) x (Some q) ≡ true) (sym e) (leads_near near place (s.rows * s.cols) (Some p) (Some q) ((step p q).1.1 (g, (n, h)))))
