-- A lattice realises a function, or there is a least assignment at which it fails.
use Rattle.std.proofs.Common.{◌≡◌, ◌⊎◌, ℕ, zero, suc, ◌^◌, inl, inr, sym, ◌∙◌, subst, arith, Some, List, [], ◌∷◌, length, length-append, slice_get, get_or, refl}
use Rattle.std.specs.Prelude.{IfSome, All}
use Rattle.std.specs.declared.option.Option.{Option}
use Rattle.std.specs.FinSet as set
use Rattle.std.specs.Cmp.{nat_cmp_total}
use Rattle.std.proofs.lemmas.List.Elements.{All-nil, All-push}
use Rattle.std.proofs.lemmas.Option.{slice_get_within, slice_get-get_or}
use Rattle.cube_core.specs.Function.{Function}
use Rattle.cube_core.specs.Members.{Assignments, AllBelow}
use Rattle.cube_core.proofs.Tools.{complement_of-AllBelow}
use Rattle.lattice_grid.specs.Defects.{Defects}
use Rattle.lattice_grid.specs.Lattice.{Lattice, IsLattice}
use Rattle.path_meaning.proofs.Tools.{at_least_one, never_both}
use Rattle.path_meaning.specs.Defective.{is_on_in, JoinedIn, RealisesIn}
use Rattle.path_meaning.specs.Failing.{FailsIn, IsLeastFailureIn}
use Rattle.pla_reader.specs.Marking.{AreBelow}
use Rattle.pla_reader.specs.Parts.{Parts}
use Rattle.pla_reader.specs.Given.{kind_of_lines, inputs_of, outputs_of, rows_of}
use Rattle.pla_reader.specs.Reading.{Reads, said_in}
use Rattle.pla_reader.specs.Sets.{sets_of, off_of, function_of_sets, functions_to}
use Rattle.pla_reader.specs.declared.kind.Kind.{Kind}
use Rattle.pla_reader.specs.declared.kind.Kind.TheVariants.{F, Fd, Fr, Fdr}
use Rattle.pla_reader.specs.declared.marked.Marked.{Marked}
use Rattle.pla_reader.proofs.Tools.{AreBelow-sets_of, both}
use Rattle.judged_texts.proofs.Decided.{IsDecided, true_or_not, none_or_first}

-- Where the function is 1 and where it is 0 is below a number.
pub record IsBelow (f : Function) : Type 0 where
  pub many : ℕ
  pub on : AllBelow many f.on
  pub off : AllBelow many f.off

difference_below : (n : ℕ) (s t : Assignments) → AllBelow n s → AllBelow n (set.difference s t)
difference_below n s t below x h = below x (both _ _ (sym (set.contains-difference nat_cmp_total s t x) ∙ h)).0

off_below : (kind : Kind) (inputs : ℕ) (sets : Marked) → AreBelow inputs sets → AllBelow (2 ^ inputs) (off_of kind inputs sets)
off_below F inputs sets below = complement_of-AllBelow inputs sets.on
off_below Fd inputs sets below = complement_of-AllBelow inputs (set.union sets.on sets.free)
off_below Fr inputs sets below = below.off
off_below Fdr inputs sets below = difference_below (2 ^ inputs) sets.off sets.free below.off

function_below : (kind : Kind) (inputs : ℕ) (sets : Marked) → AreBelow inputs sets → IsBelow (function_of_sets kind inputs sets)
function_below kind inputs sets below = record { many = 2 ^ inputs; on = difference_below (2 ^ inputs) sets.on sets.free below.on; off = off_below kind inputs sets below }

functions_below : (kind : Kind) (inputs : ℕ) (rows : List (List ℕ)) (outputs : ℕ) → All IsBelow (functions_to kind inputs rows outputs)
functions_below kind inputs rows zero = All-nil IsBelow
functions_below kind inputs rows (suc k) =
    All-push IsBelow (functions_to kind inputs rows k) (function_of_sets kind inputs (sets_of kind inputs rows k)) (functions_below kind inputs rows k) (function_below kind inputs (sets_of kind inputs rows k) (AreBelow-sets_of kind inputs rows k))

many_functions : (kind : Kind) (inputs : ℕ) (rows : List (List ℕ)) (outputs : ℕ) → length (functions_to kind inputs rows outputs) ≡ outputs
many_functions kind inputs rows zero = refl
many_functions kind inputs rows (suc k) =
    let fewer = many_functions kind inputs rows k in
    let all = length-append (functions_to kind inputs rows k) (function_of_sets kind inputs (sets_of kind inputs rows k) ∷ []) in
    omega (arith, fewer, all)

-- What a PLA that was read has: a function for each output, each below a number.
pub record HasFunctions (parts : Parts) : Type 0 where
  pub many : length parts.functions ≡ parts.outputs
  pub each : All IsBelow parts.functions

pub read_functions : (text : List ℕ) (parts : Parts) → Reads text parts → HasFunctions parts
read_functions text parts h = subst HasFunctions (sym h.gives) (record {
  many = many_functions (kind_of_lines (said_in text)) (inputs_of (said_in text)) (rows_of (said_in text)) (outputs_of (said_in text));
  each = functions_below (kind_of_lines (said_in text)) (inputs_of (said_in text)) (rows_of (said_in text)) (outputs_of (said_in text));
})

pub below_at : (fs : List Function) (k : ℕ) (f : Function) → All IsBelow fs → slice_get fs k ≡ Some f → IsBelow f
below_at fs k f all e =
    let within = slice_get_within fs k f e in
    let there = slice_get-get_or fs k f within in
    let same : get_or fs k f ≡ f = cc in
    subst IsBelow same (all k f within)

-- the array, where there is one, has the lattice's size
abbrev pub Fits : Lattice → Option Defects → Type 0
Fits g array = IfSome array (λ a. a.size ≡ g.size)

joined_or_not : (g : Lattice) (array : Option Defects) (x : ℕ) → IsLattice g → IsDecided (JoinedIn g array x)
joined_or_not g array x is = elim (at_least_one g.size (is_on_in g array x) is.size.some_rows is.size.some_cols) [
  | inl joined ↦ inl joined
  | inr cut ↦ inr (λ joined. never_both g.size (is_on_in g array x) joined cut)
]

fails_or_not : (g : Lattice) (array : Option Defects) (f : Function) (x : ℕ) → IsLattice g → IsDecided (FailsIn g array f x)
fails_or_not g array f x is = elim (joined_or_not g array x is) [
  | inl joined ↦ elim (true_or_not (set.contains f.off x)) [
    | inl off ↦ inl (inr (off, joined))
    | inr not ↦ inr (λ fails. elim fails [ inl h ↦ h.1 joined | inr h ↦ not h.0 ])
  ]
  | inr apart ↦ elim (true_or_not (set.contains f.on x)) [
    | inl on ↦ inl (inl (on, apart))
    | inr not ↦ inr (λ fails. elim fails [ inl h ↦ not h.0 | inr h ↦ apart h.1 ])
  ]
]

pub realised_or_not : (g : Lattice) (array : Option Defects) (f : Function) → IsBelow f → IsLattice g → Fits g array → RealisesIn g f array ⊎ ((x : ℕ) × IsLeastFailureIn g array f x)
realised_or_not g array f below is fits = elim (none_or_first (FailsIn g array f) (λ x. fails_or_not g array f x is) below.many) [
  | inr first ↦ inr (first.0, record { fails = first.1.here; least = first.1.none })
  | inl none ↦ inl (record {
    same_size = fits;
    on = λ x on. elim (joined_or_not g array x is) [ inl joined ↦ joined | inr apart ↦ absurd (none x (below.on x on) (inl (on, apart))) ];
    off = λ x off joined. none x (below.off x off) (inr (off, joined));
  })
]
