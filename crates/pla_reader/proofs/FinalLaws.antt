-- What the lines of a text give in the end.
use Rattle.std.proofs.Common.{◌≡◌, ℕ, suc, zero, length-append, ◌≤◌, ◌<◌, true, false, ◌&&◌, List, [], ◌∷◌, length, Option, Some, None, refl, sym, ap, ◌∙◌, arith, subst}
use Rattle.std.specs.Prelude.{All, is_some, unwrap_or, IfSome, MatchOption}
use Rattle.std.proofs.lemmas.List.Elements.{All-nil, All-push}
use Rattle.cube_core.specs.Members.{AreDisjoint}
use Rattle.cube_core.specs.Function.{Function, IsFunction}
use Rattle.pla_reader.specs.declared.kind.Kind.{Kind}
use Rattle.pla_reader.specs.declared.kind.Kind.TheVariants.{Fd}
use Rattle.pla_reader.specs.declared.marked.Marked.{Marked}
use Rattle.pla_reader.specs.declared.pla.PlaRefusal.{PlaRefusal}
use Rattle.pla_reader.specs.declared.pla.PlaRefusal.TheVariants.{Missing}
use Rattle.pla_reader.specs.Says.{Said}
use Rattle.pla_reader.specs.Given.{first_said, input_names_said, output_names_said, rows_of, inputs_of, outputs_of, are_given, kind_of_lines}
use Rattle.pla_reader.specs.Sets.{sets_of, functions_to, function_of_sets}
use Rattle.pla_reader.specs.Marking.{AreSets, AreFunctions, AreBelow, IsClash}
use Rattle.pla_reader.proofs.SetsLaws.{AreBelow-AreSets, AreBelow-sets_of, IsFunction-sets}
use Rattle.pla_reader.specs.Parts.{IsPla}
use Rattle.pla_reader.specs.State.{State, IsState, Keeps}
use Rattle.pla_reader.specs.Reading.{said_in, names_or, Reads, IsEndRefused, IsConflict}
use Rattle.pla_reader.specs.Taking.{HasTaken}
use Rattle.pla_reader.proofs.StateLaws.{inputs_of-is, outputs_of-is, kind_of-is, are_given-is, if_some_at}
use Rattle.pla_reader.proofs.NamesLaws.{length-default_names}

-- the sets of all outputs
pub sets_given : (said : List Said) (s : State) (n m : ℕ) → Keeps said s → s.inputs ≡ Some n → s.outputs ≡ Some m → AreSets (unwrap_or s.kind Fd) n m (rows_of said) s.sets
sets_given said s n m k inputs outputs =
    subst (λ j. AreSets (unwrap_or s.kind Fd) j m (rows_of said) s.sets) (ap (λ o. unwrap_or o 0) inputs)
    (subst (λ o. MatchOption o (rows_of said ≡ []) (λ j. AreSets (unwrap_or s.kind Fd) (unwrap_or s.inputs 0) j (rows_of said) s.sets)) outputs k.sets)

given_true : (said : List Said) (s : State) (n m : ℕ) → Keeps said s → s.inputs ≡ Some n → s.outputs ≡ Some m → are_given said ≡ true
given_true said s n m k inputs outputs = are_given-is k ∙ ap (λ o. is_some o && is_some s.outputs) inputs ∙ ap (λ o. is_some o) outputs

-- the value
pub Reads-finished : (bytes : List ℕ) (s : State) (line place n m : ℕ) (sets : ℕ) (functions : List Function) (ins outs : List (List ℕ)) → length bytes ≤ 4194304 → HasTaken bytes s line place → s.inputs ≡ Some n → s.outputs ≡ Some m
    → sets ≡ m → AreFunctions (unwrap_or s.kind Fd) n sets (rows_of (said_in bytes)) functions → ins ≡ names_or 120 n s.input_names → outs ≡ names_or 102 m s.output_names
    → Reads bytes (record { inputs = n; outputs = m; input_names = ins; output_names = outs; functions = functions; rest = place })
Reads-finished bytes s line place n m sets functions ins outs few h inputs outputs many fs in_names out_names =
    let ni : inputs_of (said_in bytes) ≡ n = inputs_of-is h.keeps ∙ ap (λ o. unwrap_or o 0) inputs in
    let mi : outputs_of (said_in bytes) ≡ m = outputs_of-is h.keeps ∙ ap (λ o. unwrap_or o 0) outputs in
    let ki : kind_of_lines (said_in bytes) ≡ unwrap_or s.kind Fd = kind_of-is h.keeps in
    let fi : functions ≡ functions_to (kind_of_lines (said_in bytes)) (inputs_of (said_in bytes)) (rows_of (said_in bytes)) (outputs_of (said_in bytes)) =
    fs.each ∙ ap (functions_to (unwrap_or s.kind Fd) n (rows_of (said_in bytes))) (many ∙ sym mi) ∙ sym (ap (λ j. functions_to (unwrap_or s.kind Fd) j (rows_of (said_in bytes)) (outputs_of (said_in bytes))) ni)
    ∙ sym (ap (λ j. functions_to j (inputs_of (said_in bytes)) (rows_of (said_in bytes)) (outputs_of (said_in bytes))) ki) in
    let ii : ins ≡ names_or 120 (inputs_of (said_in bytes)) (first_said input_names_said (said_in bytes)) = in_names ∙ sym (ap (names_or 120 n) h.keeps.input_names) ∙ sym (ap (λ j. names_or 120 j (first_said input_names_said (said_in bytes))) ni) in
    let oi : outs ≡ names_or 102 (outputs_of (said_in bytes)) (first_said output_names_said (said_in bytes)) = out_names ∙ sym (ap (names_or 102 m) h.keeps.output_names) ∙ sym (ap (λ j. names_or 102 j (first_said output_names_said (said_in bytes))) mi) in
    record {
      few = few;
      sound = h.sound;
      given = given_true (said_in bytes) s n m h.keeps inputs outputs;
      clear = λ k within.
          subst (λ j. AreDisjoint (sets_of j (inputs_of (said_in bytes)) (rows_of (said_in bytes)) k).on (sets_of j (inputs_of (said_in bytes)) (rows_of (said_in bytes)) k).off) (sym ki)
          (subst (λ j. AreDisjoint (sets_of (unwrap_or s.kind Fd) j (rows_of (said_in bytes)) k).on (sets_of (unwrap_or s.kind Fd) j (rows_of (said_in bytes)) k).off) (sym ni) (fs.clear k (omega (arith, mi, many, within))));
      gives = λ i. record { inputs = sym ni i; outputs = sym mi i; input_names = ii i; output_names = oi i; functions = fi i; rest = h.place_is i };
    }

-- a number is missing at the end
pub IsEndRefused-missing : (bytes : List ℕ) (s : State) (line place : ℕ) → HasTaken bytes s line place → (is_some s.inputs && is_some s.outputs) ≡ false → IsEndRefused bytes (Missing line)
IsEndRefused-missing bytes s line place h missing =
    let none : are_given (said_in bytes) ≡ false = are_given-is h.keeps ∙ missing in
    record {
      before = h.sound;
      missing = none;
      answer = ap (λ n. Missing n) (h.last none);
    }

-- an output has a conflict
pub IsConflict-clash : (bytes : List ℕ) (s : State) (line place n m sets : ℕ) (refusal : PlaRefusal) → HasTaken bytes s line place → s.inputs ≡ Some n → s.outputs ≡ Some m → sets ≡ m → IsClash (unwrap_or s.kind Fd) n sets (rows_of (said_in bytes)) refusal
    → IsConflict (said_in bytes) refusal
IsConflict-clash bytes s line place n m sets refusal h inputs outputs many clash =
    let ni : inputs_of (said_in bytes) ≡ n = inputs_of-is h.keeps ∙ ap (λ o. unwrap_or o 0) inputs in
    let mi : outputs_of (said_in bytes) ≡ m = outputs_of-is h.keeps ∙ ap (λ o. unwrap_or o 0) outputs in
    let ki : kind_of_lines (said_in bytes) ≡ unwrap_or s.kind Fd = kind_of-is h.keeps in
    let same : IsClash (kind_of_lines (said_in bytes)) (inputs_of (said_in bytes)) sets (rows_of (said_in bytes)) refusal =
    subst (λ j. IsClash j (inputs_of (said_in bytes)) sets (rows_of (said_in bytes)) refusal) (sym ki) (subst (λ j. IsClash (unwrap_or s.kind Fd) j sets (rows_of (said_in bytes)) refusal) (sym ni) clash) in
    record {
      output = same.output;
      assign = same.assign;
      before = h.sound;
      given = given_true (said_in bytes) s n m h.keeps inputs outputs;
      within = let few = same.within in omega (arith, mi, many, few);
      earlier = same.earlier;
      least = same.least;
      answer = same.answer;
    }

All-functions_to : (kind : Kind) (inputs : ℕ) (rows : List (List ℕ)) (n : ℕ) → (length (functions_to kind inputs rows n) ≡ n) × All (λ f. f.inputs ≡ inputs) (functions_to kind inputs rows n)
All-functions_to kind inputs rows zero = (refl, All-nil (λ f. f.inputs ≡ inputs))
All-functions_to kind inputs rows (suc n) =
    let before = All-functions_to kind inputs rows n in
    let many = before.0 in (
      omega (arith, length-append (functions_to kind inputs rows n) (function_of_sets kind inputs (sets_of kind inputs rows n) ∷ []), many),
      All-push (λ f. f.inputs ≡ inputs) (functions_to kind inputs rows n) (function_of_sets kind inputs (sets_of kind inputs rows n)) before.1 refl,
    )

All-IsFunction : (kind : Kind) (inputs : ℕ) (rows : List (List ℕ)) (n : ℕ) → 1 ≤ inputs → inputs ≤ 10
    → ((k : ℕ) → k < n → AreDisjoint (sets_of kind inputs rows k).on (sets_of kind inputs rows k).off) → All IsFunction (functions_to kind inputs rows n)
All-IsFunction kind inputs rows zero some few clear = All-nil IsFunction
All-IsFunction kind inputs rows (suc n) some few clear =
    All-push IsFunction (functions_to kind inputs rows n) (function_of_sets kind inputs (sets_of kind inputs rows n))
    (All-IsFunction kind inputs rows n some few (λ k h. clear k (omega (arith, h))))
    (IsFunction-sets kind inputs (sets_of kind inputs rows n) some few (AreBelow-sets_of kind inputs rows n) (clear n (omega arith)))

length-names_or : (letter n : ℕ) (o : Option (List (List ℕ))) → IfSome o (λ names. length names ≡ n) → length (names_or letter n o) ≡ n
length-names_or letter n None h = length-default_names letter n
length-names_or letter n (Some names) h = h

names_many : (o : Option ℕ) (n : ℕ) (names : Option (List (List ℕ))) → o ≡ Some n → IfSome names (λ ns. o ≡ Some (length ns)) → IfSome names (λ ns. length ns ≡ n)
names_many o n None e h = tt
names_many o n (Some ns) e h = let same : Some (length ns) ≡ Some n = sym h ∙ e in cc

-- the value is whole
pub IsPla-finished : (s : State) (n m place sets : ℕ) (kind : Kind) (rows : List (List ℕ)) (functions : List Function) (ins outs : List (List ℕ)) → IsState s → s.inputs ≡ Some n → s.outputs ≡ Some m → sets ≡ m → AreFunctions kind n sets rows functions
    → ins ≡ names_or 120 n s.input_names → outs ≡ names_or 102 m s.output_names → IsPla (record { inputs = n; outputs = m; input_names = ins; output_names = outs; functions = functions; rest = place })
IsPla-finished s n m place sets kind rows functions ins outs h inputs outputs many fs in_names out_names =
    let ni = if_some_at s.inputs (λ n. (1 ≤ n) × (n ≤ 10)) n h.inputs inputs in
    let mi = if_some_at s.outputs (λ m. (1 ≤ m) × (m ≤ 64)) m h.outputs outputs in
    let all = All-functions_to kind n rows sets in
    record {
      some_inputs = ni.0;
      few_inputs = ni.1;
      some_outputs = mi.0;
      few_outputs = mi.1;
      input_names = ap length in_names ∙ length-names_or 120 n s.input_names (names_many s.inputs n s.input_names inputs h.input_names);
      output_names = ap length out_names ∙ length-names_or 102 m s.output_names (names_many s.outputs m s.output_names outputs h.output_names);
      functions = ap length fs.each ∙ all.0 ∙ many;
      each = subst (All (λ f. f.inputs ≡ n)) (sym fs.each) all.1;
      kept = subst (All IsFunction) (sym fs.each) (All-IsFunction kind n rows sets ni.0 ni.1 fs.clear);
    }

-- the sets, as they are lent
pub sets_read : (said : List Said) (s : State) (n m : ℕ) (kind : Kind) (items : List Marked) → Keeps said s → s.inputs ≡ Some n → s.outputs ≡ Some m → kind ≡ unwrap_or s.kind Fd → items ≡ s.sets → AreSets kind n (length items) (rows_of said) items
sets_read said s n m kind items k inputs outputs is same =
    let are = sets_given said s n m k inputs outputs in
    subst (λ j. AreSets j n (length items) (rows_of said) items) (sym is)
    (subst (λ w. AreSets (unwrap_or s.kind Fd) n (length w) (rows_of said) w) (sym same) (subst (λ j. AreSets (unwrap_or s.kind Fd) n j (rows_of said) s.sets) (sym are.many) are))

pub sets_count : (said : List Said) (s : State) (n m : ℕ) (items : List Marked) → Keeps said s → s.inputs ≡ Some n → s.outputs ≡ Some m → items ≡ s.sets → length items ≡ m
sets_count said s n m items k inputs outputs same = ap length same ∙ (sets_given said s n m k inputs outputs).many

pub sets_below : (said : List Said) (s : State) (n m : ℕ) (items : List Marked) → Keeps said s → s.inputs ≡ Some n → s.outputs ≡ Some m → items ≡ s.sets → All (AreBelow n) items
sets_below said s n m items k inputs outputs same = AreBelow-AreSets (unwrap_or s.kind Fd) n (length items) (rows_of said) items (sets_read said s n m (unwrap_or s.kind Fd) items k inputs outputs refl same)
