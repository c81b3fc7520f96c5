-- What one more line does to what is kept.
use Rattle.std.proofs.Common.{◌≡◌, ℕ, ◌+◌, ◌≤◌, ◌<◌, Bool, true, false, not, ◌&&◌, List, [], ◌∷◌, ◌++◌, length, Option, Some, None, refl, sym, ap, ◌∙◌, arith, subst, nat_lt, length-append, true≢false}
use Rattle.std.specs.Prelude.{All, OnOk, is_err, Result, Ok, Err, is_some, unwrap_or, IfSome, MatchOption}
use Rattle.std.specs.Option.{option_map}
use Rattle.std.specs.List.{filter_map}
use Rattle.std.proofs.lemmas.List.{append-nil}
use Rattle.std.proofs.lemmas.List.Elements.{filter_map-append}
use Rattle.std.proofs.lemmas.Bool.Decides.{Decides-ltb}
use Rattle.pla_reader.specs.declared.kind.Kind.{Kind}
use Rattle.pla_reader.specs.declared.kind.Kind.TheVariants.{Fd}
use Rattle.pla_reader.specs.declared.marked.Marked.{Marked}
use Rattle.pla_reader.specs.declared.fault.LineFault.{LineFault}
use Rattle.pla_reader.specs.declared.fault.LineFault.TheVariants.{Inputs, Outputs, Missing}
use Rattle.pla_reader.specs.Says.{Said}
use Rattle.pla_reader.specs.Says.Said.{GivesInputs, GivesOutputs, GivesKind, NamesInputs, NamesOutputs, GivesRow, Ends}
use Rattle.pla_reader.specs.Given.{inputs_said, outputs_said, kind_said, input_names_said, output_names_said, row_said, first_said, either_of, stands, rows_of, has_rows, inputs_of, outputs_of, are_given, number_in, kind_in, kind_of_lines}
use Rattle.pla_reader.specs.Faults.{first_of, number_fault, kind_fault, names_fault, row_fault, fault_after}
use Rattle.pla_reader.specs.Marking.{Adds, AreSets, are_empty}
use Rattle.pla_reader.specs.State.{State, IsState, Keeps}
use Rattle.pla_reader.proofs.SetsLaws.{AreSets-push, AreSets-none, AreSets-change}

either_none : {X : Type 0} (o : Option X) → either_of o None ≡ o
either_none None = refl
either_none (Some x) = refl

either_assoc : {X : Type 0} (a b c : Option X) → either_of a (either_of b c) ≡ either_of (either_of a b) c
either_assoc None b c = refl
either_assoc (Some x) b c = refl

pub first_said-push : {X : Type 0} (says : Said → Option X) (ss : List Said) (s : Said) → first_said says (ss ++ s ∷ []) ≡ either_of (first_said says ss) (says s)
first_said-push says [] s = either_none (says s)
first_said-push says (t ∷ ss) s = ap (either_of (says t)) (first_said-push says ss s) ∙ either_assoc (says t) (first_said says ss) (says s)

-- a line that says no such thing
first_said-kept : {X : Type 0} (says : Said → Option X) (ss : List Said) (s : Said) (o : Option X) → says s ≡ None → first_said says ss ≡ o → first_said says (ss ++ s ∷ []) ≡ o
first_said-kept says ss s o none is = first_said-push says ss s ∙ ap (either_of (first_said says ss)) none ∙ either_none (first_said says ss) ∙ is

-- the first line that says such a thing
first_said-new : {X : Type 0} (says : Said → Option X) (ss : List Said) (s : Said) (x : X) → says s ≡ Some x → is_some (first_said says ss) ≡ false → first_said says (ss ++ s ∷ []) ≡ Some x
first_said-new {X} says ss s x some none = first_said-push says ss s ∙ ap (either_of (first_said says ss)) some ∙ go (first_said says ss) none where
  go : (o : Option X) → is_some o ≡ false → either_of o (Some x) ≡ Some x
  go None e = refl
  go (Some y) e = absurd (true≢false e)

rows_of-kept : (ss : List Said) (s : Said) → row_said s ≡ None → rows_of (ss ++ s ∷ []) ≡ rows_of ss
rows_of-kept ss s none = filter_map-append row_said ss (s ∷ []) ∙ ap (λ r. rows_of ss ++ r) (one s none) ∙ append-nil (rows_of ss) where
  one : (s : Said) → row_said s ≡ None → filter_map row_said (s ∷ []) ≡ []
  one s none = rw none refl

rows_of-push : (ss : List Said) (digits : List ℕ) → rows_of (ss ++ GivesRow digits ∷ []) ≡ rows_of ss ++ digits ∷ []
rows_of-push ss digits = filter_map-append row_said ss (GivesRow digits ∷ [])

is_some-map : {X : Type 0} (o : Option X) → is_some (option_map (λ x. Some x) o) ≡ is_some o
is_some-map None = refl
is_some-map (Some x) = refl

number_in-map : (o : Option ℕ) → number_in (option_map (λ x. Some x) o) ≡ unwrap_or o 0
number_in-map None = refl
number_in-map (Some x) = refl

kind_in-map : (o : Option Kind) → kind_in (option_map (λ x. Some x) o) ≡ unwrap_or o Fd
kind_in-map None = refl
kind_in-map (Some x) = refl

module _ {before : List Said} {s : State} (h : Keeps before s) where
  pub stands-inputs : stands inputs_said before ≡ is_some s.inputs
  stands-inputs = ap is_some h.inputs ∙ is_some-map s.inputs

  pub stands-outputs : stands outputs_said before ≡ is_some s.outputs
  stands-outputs = ap is_some h.outputs ∙ is_some-map s.outputs

  pub stands-kind : stands kind_said before ≡ is_some s.kind
  stands-kind = ap is_some h.kind ∙ is_some-map s.kind

  pub rows-some : has_rows before ≡ nat_lt 0 s.rows
  rows-some = ap (nat_lt 0) h.rows

  pub inputs_of-is : inputs_of before ≡ unwrap_or s.inputs 0
  inputs_of-is = ap number_in h.inputs ∙ number_in-map s.inputs

  pub outputs_of-is : outputs_of before ≡ unwrap_or s.outputs 0
  outputs_of-is = ap number_in h.outputs ∙ number_in-map s.outputs

  pub kind_of-is : kind_of_lines before ≡ unwrap_or s.kind Fd
  kind_of-is = ap kind_in h.kind ∙ kind_in-map s.kind

  pub are_given-is : are_given before ≡ (is_some s.inputs && is_some s.outputs)
  are_given-is = ap (λ b. b && stands outputs_said before) stands-inputs ∙ ap (λ b. is_some s.inputs && b) stands-outputs

  pub fault-inputs : (number : Option ℕ) → fault_after before (GivesInputs number) ≡ number_fault (is_some s.inputs) (nat_lt 0 s.rows) number 10 Inputs
  fault-inputs number = ap (λ b. number_fault b (has_rows before) number 10 Inputs) stands-inputs ∙ ap (λ b. number_fault (is_some s.inputs) b number 10 Inputs) rows-some

  pub fault-outputs : (number : Option ℕ) → fault_after before (GivesOutputs number) ≡ number_fault (is_some s.outputs) (nat_lt 0 s.rows) number 64 Outputs
  fault-outputs number = ap (λ b. number_fault b (has_rows before) number 64 Outputs) stands-outputs ∙ ap (λ b. number_fault (is_some s.outputs) b number 64 Outputs) rows-some

  pub fault-kind : (kind : Option Kind) → fault_after before (GivesKind kind) ≡ kind_fault (is_some s.kind) (nat_lt 0 s.rows) kind
  fault-kind kind = ap (λ b. kind_fault b (has_rows before) kind) stands-kind ∙ ap (λ b. kind_fault (is_some s.kind) b kind) rows-some

  pub fault-input_names : (names : List (List ℕ)) → fault_after before (NamesInputs names) ≡ names_fault (is_some s.input_names) (nat_lt 0 s.rows) (is_some s.inputs) (unwrap_or s.inputs 0) names
  fault-input_names names =
      ap (λ b. names_fault b (has_rows before) (stands inputs_said before) (inputs_of before) names) (ap is_some h.input_names)
      ∙ ap (λ b. names_fault (is_some s.input_names) b (stands inputs_said before) (inputs_of before) names) rows-some
      ∙ ap (λ b. names_fault (is_some s.input_names) (nat_lt 0 s.rows) b (inputs_of before) names) stands-inputs
      ∙ ap (λ n. names_fault (is_some s.input_names) (nat_lt 0 s.rows) (is_some s.inputs) n names) inputs_of-is

  pub fault-output_names : (names : List (List ℕ)) → fault_after before (NamesOutputs names) ≡ names_fault (is_some s.output_names) (nat_lt 0 s.rows) (is_some s.outputs) (unwrap_or s.outputs 0) names
  fault-output_names names =
      ap (λ b. names_fault b (has_rows before) (stands outputs_said before) (outputs_of before) names) (ap is_some h.output_names)
      ∙ ap (λ b. names_fault (is_some s.output_names) b (stands outputs_said before) (outputs_of before) names) rows-some
      ∙ ap (λ b. names_fault (is_some s.output_names) (nat_lt 0 s.rows) b (outputs_of before) names) stands-outputs
      ∙ ap (λ n. names_fault (is_some s.output_names) (nat_lt 0 s.rows) (is_some s.outputs) n names) outputs_of-is

  pub fault-row : (digits : List ℕ) → fault_after before (GivesRow digits) ≡ row_fault (is_some s.inputs && is_some s.outputs) (unwrap_or s.inputs 0) (unwrap_or s.outputs 0) s.rows digits
  fault-row digits =
      ap (λ b. row_fault b (inputs_of before) (outputs_of before) (length (rows_of before)) digits) are_given-is
      ∙ ap (λ n. row_fault (is_some s.inputs && is_some s.outputs) n (outputs_of before) (length (rows_of before)) digits) inputs_of-is
      ∙ ap (λ n. row_fault (is_some s.inputs && is_some s.outputs) (unwrap_or s.inputs 0) n (length (rows_of before)) digits) outputs_of-is
      ∙ ap (λ n. row_fault (is_some s.inputs && is_some s.outputs) (unwrap_or s.inputs 0) (unwrap_or s.outputs 0) n digits) h.rows

-- no number, type or names line without a fault comes after its like or after a row
clear-number : (stood rows : Bool) (number : Option ℕ) (most : ℕ) (beyond : LineFault) → number_fault stood rows number most beyond ≡ None → (stood ≡ false) × (rows ≡ false)
clear-number true rows number most beyond e = cc
clear-number false rows None most beyond e = cc
clear-number false true (Some n) most beyond e = cc
clear-number false false (Some n) most beyond e = (refl, refl)

clear-kind : (stood rows : Bool) (kind : Option Kind) → kind_fault stood rows kind ≡ None → (stood ≡ false) × (rows ≡ false)
clear-kind stood rows None e = cc
clear-kind true rows (Some k) e = cc
clear-kind false true (Some k) e = cc
clear-kind false false (Some k) e = (refl, refl)

clear-names : (stood rows given : Bool) (many : ℕ) (names : List (List ℕ)) → names_fault stood rows given many names ≡ None → stood ≡ false
clear-names true rows given many names e = cc
clear-names false rows given many names e = refl

no_rows : (n : ℕ) (rows : List (List ℕ)) → length rows ≡ n → nat_lt 0 n ≡ false → rows ≡ []
no_rows n [] is e = refl
no_rows n (r ∷ rows) is e = absurd (true≢false (sym ((Decides-ltb 0 n).1 (omega arith)) ∙ e))

-- the sets while there is no row
sets-change : (o : Option ℕ) (k j : Kind) (n m : ℕ) (rows later : List (List ℕ)) (sets : List Marked) → rows ≡ [] → later ≡ rows
    → MatchOption o (rows ≡ []) (λ outputs. AreSets k n outputs rows sets) → MatchOption o (later ≡ []) (λ outputs. AreSets j m outputs later sets)
sets-change None k j n m rows later sets none same h = same ∙ none
sets-change (Some outputs) k j n m rows later sets none same h = subst (λ r. AreSets j m outputs r sets) (sym (same ∙ none)) (AreSets-change k j n m outputs sets (subst (λ r. AreSets k n outputs r sets) none h))

-- the sets while rows stay as they are
sets-kept : (o : Option ℕ) (k : Kind) (n : ℕ) (rows later : List (List ℕ)) (sets : List Marked) → later ≡ rows → MatchOption o (rows ≡ []) (λ outputs. AreSets k n outputs rows sets) → MatchOption o (later ≡ []) (λ outputs. AreSets k n outputs later sets)
sets-kept o k n rows later sets same h = subst (λ r. MatchOption o (r ≡ []) (λ outputs. AreSets k n outputs r sets)) (sym same) h

-- a line that gives nothing
pub Keeps-nothing : (before : List Said) (s : State) (line : Said) → Keeps before s → inputs_said line ≡ None → outputs_said line ≡ None → kind_said line ≡ None → input_names_said line ≡ None → output_names_said line ≡ None → row_said line ≡ None
    → Keeps (before ++ line ∷ []) s
Keeps-nothing before s line h a b c d e r = record {
  inputs = first_said-kept inputs_said before line _ a h.inputs;
  outputs = first_said-kept outputs_said before line _ b h.outputs;
  kind = first_said-kept kind_said before line _ c h.kind;
  input_names = first_said-kept input_names_said before line _ d h.input_names;
  output_names = first_said-kept output_names_said before line _ e h.output_names;
  rows = ap length (rows_of-kept before line r) ∙ h.rows;
  sets = sets-kept s.outputs _ _ _ _ s.sets (rows_of-kept before line r) h.sets;
}

pub Keeps-inputs : (before : List Said) (s : State) (number : Option ℕ) (n : ℕ) → Keeps before s → number_fault (is_some s.inputs) (nat_lt 0 s.rows) number 10 Inputs ≡ None → number ≡ Some n
    → Keeps (before ++ GivesInputs number ∷ []) (record s { inputs = Some n })
Keeps-inputs before s number n h clear is =
    let one = clear-number (is_some s.inputs) (nat_lt 0 s.rows) number 10 Inputs clear in
    let none = no_rows s.rows (rows_of before) h.rows one.1 in
    record {
      inputs = first_said-new inputs_said before (GivesInputs number) number refl (stands-inputs h ∙ one.0) ∙ ap (λ o. Some o) is;
      outputs = first_said-kept outputs_said before (GivesInputs number) _ refl h.outputs;
      kind = first_said-kept kind_said before (GivesInputs number) _ refl h.kind;
      input_names = first_said-kept input_names_said before (GivesInputs number) _ refl h.input_names;
      output_names = first_said-kept output_names_said before (GivesInputs number) _ refl h.output_names;
      rows = ap length (rows_of-kept before (GivesInputs number) refl) ∙ h.rows;
      sets = sets-change s.outputs _ _ _ _ _ _ s.sets none (rows_of-kept before (GivesInputs number) refl) h.sets;
    }

pub Keeps-outputs : (before : List Said) (s : State) (number : Option ℕ) (m : ℕ) (sets : List Marked) → Keeps before s → number_fault (is_some s.outputs) (nat_lt 0 s.rows) number 64 Outputs ≡ None → number ≡ Some m
    → AreSets (unwrap_or s.kind Fd) (unwrap_or s.inputs 0) m [] sets → Keeps (before ++ GivesOutputs number ∷ []) (record s { outputs = Some m; sets = sets })
Keeps-outputs before s number m sets h clear is are =
    let one = clear-number (is_some s.outputs) (nat_lt 0 s.rows) number 64 Outputs clear in
    let none = no_rows s.rows (rows_of before) h.rows one.1 in
    record {
      inputs = first_said-kept inputs_said before (GivesOutputs number) _ refl h.inputs;
      outputs = first_said-new outputs_said before (GivesOutputs number) number refl (stands-outputs h ∙ one.0) ∙ ap (λ o. Some o) is;
      kind = first_said-kept kind_said before (GivesOutputs number) _ refl h.kind;
      input_names = first_said-kept input_names_said before (GivesOutputs number) _ refl h.input_names;
      output_names = first_said-kept output_names_said before (GivesOutputs number) _ refl h.output_names;
      rows = ap length (rows_of-kept before (GivesOutputs number) refl) ∙ h.rows;
      sets = subst (λ r. AreSets (unwrap_or s.kind Fd) (unwrap_or s.inputs 0) m r sets) (sym (rows_of-kept before (GivesOutputs number) refl ∙ none)) are;
    }

pub Keeps-kind : (before : List Said) (s : State) (kind : Option Kind) (k : Kind) → Keeps before s → kind_fault (is_some s.kind) (nat_lt 0 s.rows) kind ≡ None → kind ≡ Some k → Keeps (before ++ GivesKind kind ∷ []) (record s { kind = Some k })
Keeps-kind before s kind k h clear is =
    let one = clear-kind (is_some s.kind) (nat_lt 0 s.rows) kind clear in
    let none = no_rows s.rows (rows_of before) h.rows one.1 in
    record {
      inputs = first_said-kept inputs_said before (GivesKind kind) _ refl h.inputs;
      outputs = first_said-kept outputs_said before (GivesKind kind) _ refl h.outputs;
      kind = first_said-new kind_said before (GivesKind kind) kind refl (stands-kind h ∙ one.0) ∙ ap (λ o. Some o) is;
      input_names = first_said-kept input_names_said before (GivesKind kind) _ refl h.input_names;
      output_names = first_said-kept output_names_said before (GivesKind kind) _ refl h.output_names;
      rows = ap length (rows_of-kept before (GivesKind kind) refl) ∙ h.rows;
      sets = sets-change s.outputs _ _ _ _ _ _ s.sets none (rows_of-kept before (GivesKind kind) refl) h.sets;
    }

pub Keeps-input_names : (before : List Said) (s : State) (names : List (List ℕ)) → Keeps before s → is_some s.input_names ≡ false → Keeps (before ++ NamesInputs names ∷ []) (record s { input_names = Some names })
Keeps-input_names before s names h new = record {
  inputs = first_said-kept inputs_said before (NamesInputs names) _ refl h.inputs;
  outputs = first_said-kept outputs_said before (NamesInputs names) _ refl h.outputs;
  kind = first_said-kept kind_said before (NamesInputs names) _ refl h.kind;
  input_names = first_said-new input_names_said before (NamesInputs names) names refl (ap is_some h.input_names ∙ new);
  output_names = first_said-kept output_names_said before (NamesInputs names) _ refl h.output_names;
  rows = ap length (rows_of-kept before (NamesInputs names) refl) ∙ h.rows;
  sets = sets-kept s.outputs _ _ _ _ s.sets (rows_of-kept before (NamesInputs names) refl) h.sets;
}

pub Keeps-output_names : (before : List Said) (s : State) (names : List (List ℕ)) → Keeps before s → is_some s.output_names ≡ false → Keeps (before ++ NamesOutputs names ∷ []) (record s { output_names = Some names })
Keeps-output_names before s names h new = record {
  inputs = first_said-kept inputs_said before (NamesOutputs names) _ refl h.inputs;
  outputs = first_said-kept outputs_said before (NamesOutputs names) _ refl h.outputs;
  kind = first_said-kept kind_said before (NamesOutputs names) _ refl h.kind;
  input_names = first_said-kept input_names_said before (NamesOutputs names) _ refl h.input_names;
  output_names = first_said-new output_names_said before (NamesOutputs names) names refl (ap is_some h.output_names ∙ new);
  rows = ap length (rows_of-kept before (NamesOutputs names) refl) ∙ h.rows;
  sets = sets-kept s.outputs _ _ _ _ s.sets (rows_of-kept before (NamesOutputs names) refl) h.sets;
}

pub Keeps-row : (before : List Said) (s : State) (digits : List ℕ) (n : ℕ) (sets : List Marked) → Keeps before s → s.inputs ≡ Some n → is_some s.outputs ≡ true → Adds (unwrap_or s.kind Fd) n digits s.sets sets
    → Keeps (before ++ GivesRow digits ∷ []) (record s { rows = s.rows + 1; sets = sets })
Keeps-row before s digits n sets h inputs outputs adds = record {
  inputs = first_said-kept inputs_said before (GivesRow digits) _ refl h.inputs;
  outputs = first_said-kept outputs_said before (GivesRow digits) _ refl h.outputs;
  kind = first_said-kept kind_said before (GivesRow digits) _ refl h.kind;
  input_names = first_said-kept input_names_said before (GivesRow digits) _ refl h.input_names;
  output_names = first_said-kept output_names_said before (GivesRow digits) _ refl h.output_names;
  rows = ap length (rows_of-push before digits) ∙ length-append (rows_of before) (digits ∷ []) ∙ ap (λ k. k + 1) h.rows;
  sets = go s.outputs outputs h.sets;
} where
  go : (o : Option ℕ) → is_some o ≡ true → MatchOption o (rows_of before ≡ []) (λ m. AreSets (unwrap_or s.kind Fd) (unwrap_or s.inputs 0) m (rows_of before) s.sets)
      → MatchOption o (rows_of (before ++ GivesRow digits ∷ []) ≡ []) (λ m. AreSets (unwrap_or s.kind Fd) (unwrap_or s.inputs 0) m (rows_of (before ++ GivesRow digits ∷ [])) sets)
  go None e are = absurd (true≢false (sym e))
  go (Some m) e are =
      subst (λ r. AreSets (unwrap_or s.kind Fd) (unwrap_or s.inputs 0) m r sets) (sym (rows_of-push before digits))
      (AreSets-push (unwrap_or s.kind Fd) (unwrap_or s.inputs 0) m (rows_of before) digits s.sets sets are (subst (λ k. Adds (unwrap_or s.kind Fd) k digits s.sets sets) (sym (ap (λ o. unwrap_or o 0) inputs)) adds))

pub if_some_at : {X : Type 0} (o : Option X) (P : X → Type 0) (x : X) → IfSome o P → o ≡ Some x → P x
if_some_at None P x h e = cc
if_some_at (Some y) P x h e = let same : y ≡ x = cc in subst P same h

IsState-inputs : (s : State) (n : ℕ) → IsState s → is_some s.inputs ≡ false → 1 ≤ n → n ≤ 10 → IsState (record s { inputs = Some n })
IsState-inputs s n h none some few = record {
  inputs = (some, few);
  outputs = h.outputs;
  input_names = go s.input_names h.input_names;
  output_names = h.output_names;
  rows = h.rows;
  sets = h.sets;
} where
  go : (o : Option (List (List ℕ))) → IfSome o (λ names. s.inputs ≡ Some (length names)) → IfSome o (λ names. ◌≡◌ {A = Option ℕ} (Some n) (Some (length names)))
  go None e = tt
  go (Some names) e = absurd (true≢false (sym (ap is_some e) ∙ none))

IsState-outputs : (s : State) (m : ℕ) (sets : List Marked) → IsState s → is_some s.outputs ≡ false → 1 ≤ m → m ≤ 64 → length sets ≡ m → IsState (record s { outputs = Some m; sets = sets })
IsState-outputs s m sets h none some few many = record {
  inputs = h.inputs;
  outputs = (some, few);
  input_names = h.input_names;
  output_names = go s.output_names h.output_names;
  rows = h.rows;
  sets = many;
} where
  go : (o : Option (List (List ℕ))) → IfSome o (λ names. s.outputs ≡ Some (length names)) → IfSome o (λ names. ◌≡◌ {A = Option ℕ} (Some m) (Some (length names)))
  go None e = tt
  go (Some names) e = absurd (true≢false (sym (ap is_some e) ∙ none))

-- the answers to a line
pub Takes-inputs : (s : State) (number : Option ℕ) (n : ℕ) → IsState s → number_fault (is_some s.inputs) (nat_lt 0 s.rows) number 10 Inputs ≡ None → number ≡ Some n → 1 ≤ n → n ≤ 10
    → IsState (record s { inputs = Some n }) × ((before : List Said) → Keeps before s → (fault_after before (GivesInputs number) ≡ None) × Keeps (before ++ GivesInputs number ∷ []) (record s { inputs = Some n }))
Takes-inputs s number n h clear is some few = (
  IsState-inputs s n h (clear-number (is_some s.inputs) (nat_lt 0 s.rows) number 10 Inputs clear).0 some few,
  λ before k. (fault-inputs k number ∙ clear, Keeps-inputs before s number n k clear is),
)

pub Takes-outputs : (s : State) (number : Option ℕ) (m : ℕ) (sets : List Marked) → IsState s → number_fault (is_some s.outputs) (nat_lt 0 s.rows) number 64 Outputs ≡ None → number ≡ Some m → 1 ≤ m → m ≤ 64 → length sets ≡ m → All are_empty sets
    → IsState (record s { outputs = Some m; sets = sets })
    × ((before : List Said) → Keeps before s → (fault_after before (GivesOutputs number) ≡ None) × Keeps (before ++ GivesOutputs number ∷ []) (record s { outputs = Some m; sets = sets }))
Takes-outputs s number m sets h clear is some few many empty = (
  IsState-outputs s m sets h (clear-number (is_some s.outputs) (nat_lt 0 s.rows) number 64 Outputs clear).0 some few many,
  λ before k. (fault-outputs k number ∙ clear, Keeps-outputs before s number m sets k clear is (AreSets-none (unwrap_or s.kind Fd) (unwrap_or s.inputs 0) m sets many empty)),
)

pub Takes-kind : (s : State) (kind : Option Kind) (j : Kind) → IsState s → kind_fault (is_some s.kind) (nat_lt 0 s.rows) kind ≡ None → kind ≡ Some j
    → IsState (record s { kind = Some j }) × ((before : List Said) → Keeps before s → (fault_after before (GivesKind kind) ≡ None) × Keeps (before ++ GivesKind kind ∷ []) (record s { kind = Some j }))
Takes-kind s kind j h clear is = (
  record { inputs = h.inputs; outputs = h.outputs; input_names = h.input_names; output_names = h.output_names; rows = h.rows; sets = h.sets },
  λ before k. (fault-kind k kind ∙ clear, Keeps-kind before s kind j k clear is),
)

pub Takes-input_names : (s : State) (names words : List (List ℕ)) → IsState s → names_fault (is_some s.input_names) (nat_lt 0 s.rows) (is_some s.inputs) (unwrap_or s.inputs 0) words ≡ None → names ≡ words → s.inputs ≡ Some (length names)
    → IsState (record s { input_names = Some names }) × ((before : List Said) → Keeps before s → (fault_after before (NamesInputs words) ≡ None) × Keeps (before ++ NamesInputs words ∷ []) (record s { input_names = Some names }))
Takes-input_names s names words h clear is many = (
  record { inputs = h.inputs; outputs = h.outputs; input_names = many; output_names = h.output_names; rows = h.rows; sets = h.sets },
  λ before k. (fault-input_names k words ∙ clear, subst (λ w. Keeps (before ++ NamesInputs words ∷ []) (record s { input_names = Some w })) (sym is) (Keeps-input_names before s words k (clear-names (is_some s.input_names) (nat_lt 0 s.rows) (is_some s.inputs) (unwrap_or s.inputs 0) words clear))),
)

pub Takes-output_names : (s : State) (names words : List (List ℕ)) → IsState s → names_fault (is_some s.output_names) (nat_lt 0 s.rows) (is_some s.outputs) (unwrap_or s.outputs 0) words ≡ None → names ≡ words → s.outputs ≡ Some (length names)
    → IsState (record s { output_names = Some names }) × ((before : List Said) → Keeps before s → (fault_after before (NamesOutputs words) ≡ None) × Keeps (before ++ NamesOutputs words ∷ []) (record s { output_names = Some names }))
Takes-output_names s names words h clear is many = (
  record { inputs = h.inputs; outputs = h.outputs; input_names = h.input_names; output_names = many; rows = h.rows; sets = h.sets },
  λ before k. (fault-output_names k words ∙ clear, subst (λ w. Keeps (before ++ NamesOutputs words ∷ []) (record s { output_names = Some w })) (sym is) (Keeps-output_names before s words k (clear-names (is_some s.output_names) (nat_lt 0 s.rows) (is_some s.outputs) (unwrap_or s.outputs 0) words clear))),
)

-- how many sets there are, where both numbers are given
pub sets_many : (s : State) → IsState s → is_some s.outputs ≡ true → length s.sets ≡ unwrap_or s.outputs 0
sets_many s h some = go s.outputs some h.sets where
  go : (o : Option ℕ) → is_some o ≡ true → IfSome o (λ m. length s.sets ≡ m) → length s.sets ≡ unwrap_or o 0
  go None e h = absurd (true≢false (sym e))
  go (Some m) e h = h

pub inputs_few : (s : State) (n : ℕ) → IsState s → s.inputs ≡ Some n → (1 ≤ n) × (n ≤ 10)
inputs_few s n h e = if_some_at s.inputs (λ n. (1 ≤ n) × (n ≤ 10)) n h.inputs e

pub Takes-row : (s : State) (digits : List ℕ) (n : ℕ) (sets : List Marked) → IsState s → row_fault (is_some s.inputs && is_some s.outputs) (unwrap_or s.inputs 0) (unwrap_or s.outputs 0) s.rows digits ≡ None
    → s.inputs ≡ Some n → is_some s.outputs ≡ true → s.rows < 65536 → Adds (unwrap_or s.kind Fd) n digits s.sets sets
    → IsState (record s { rows = s.rows + 1; sets = sets })
    × ((before : List Said) → Keeps before s → (fault_after before (GivesRow digits) ≡ None) × Keeps (before ++ GivesRow digits ∷ []) (record s { rows = s.rows + 1; sets = sets }))
Takes-row s digits n sets h clear inputs outputs few adds = (
  record {
    inputs = h.inputs;
    outputs = h.outputs;
    input_names = h.input_names;
    output_names = h.output_names;
    rows = omega arith;
    sets = go s.outputs h.sets;
  },
  λ before k. (fault-row k digits ∙ clear, Keeps-row before s digits n sets k inputs outputs adds),
) where
  go : (o : Option ℕ) → IfSome o (λ m. length s.sets ≡ m) → IfSome o (λ m. length sets ≡ m)
  go None e = tt
  go (Some m) e = adds.many ∙ e

-- at the end of a PLA
pub fault-end : (before : List Said) (s : State) (given : Bool) → Keeps before s → (is_some s.inputs && is_some s.outputs) ≡ given → fault_after before Ends ≡ first_of ((not given, Missing) ∷ [])
fault-end before s given k e = ap (λ b. first_of ((not b, Missing) ∷ [])) (are_given-is k ∙ e)

pub is_some-option_map : {X Y : Type 0} (f : X → Y) (o : Option X) → is_some (option_map f o) ≡ is_some o
is_some-option_map f None = refl
is_some-option_map f (Some x) = refl

pub from_ok : {X E : Type 0} (r : Result X E) (P : Type 0) → OnOk r P → is_err r ≡ false → P
from_ok (Ok x) P h e = h
from_ok (Err d) P h e = absurd (true≢false e)
