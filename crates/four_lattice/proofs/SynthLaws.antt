-- How what the parts of `synth` and `map` write comes to a report and a journal, or to fronts of them.
use Rattle.std.proofs.Common.{◌≡◌, ℕ, suc, ◌+◌, ◌-◌, ◌<◌, ◌≤◌, ◌||◌, List, [], ◌∷◌, ◌++◌, length, map, get_or, refl, sym, ap, ap₂, ◌∙◌, subst, arith, append_assoc, length-append, codes, inl, inr, ◌⊎◌, Bool, true, false, Some, None}
use Rattle.std.specs.Prelude.{All, IfSome, slice_get, ◌^◌, min}
use Rattle.std.specs.declared.option.Option.{Option}
use Rattle.std.specs.List.{Contains, list_any, range_with_len}
use Rattle.std.proofs.lemmas.List.{append-nil, map-append}
use Rattle.std.proofs.lemmas.List.Concat.{flat_map-append}
use Rattle.std.proofs.lemmas.List.Folds.{list_any-append}
use Rattle.std.proofs.lemmas.List.Elements.{All-nil, All-cons, All-head, All-tail, All-weaker, All-append, All-push, All-get_or, Contains-append_left, Contains-append_right, Contains-append_cases}
use Rattle.std.proofs.lemmas.Option.{slice_get-get_or}
use Rattle.cube_core.specs.Function.{Function}
use Rattle.lattice_grid.specs.Defects.{Defects}
use Rattle.pla_reader.specs.Name.{IsName}
use Rattle.pla_reader.specs.Parts.{Parts, IsPla}
use Rattle.pla_reader.specs.Names.{bytes_of}
use Rattle.pla_reader.specs.Parts.{parts_of}
use Rattle.pla_reader.specs.declared.name.Name.{Name}
use Rattle.pla_reader.specs.declared.pla.Pla.{Pla}
use Rattle.report_text.specs.declared.answer.Answer.{Answer}
use Rattle.report_text.specs.declared.answer.Answer.TheVariants.{Found, Minimum, Undecided, Mapped, NoneMapped, MapUndecided, NoRails}
use Rattle.report_text.specs.declared.answer.Proof.{Proof}
use Rattle.report_text.specs.declared.answer.Version.TheVariants.{Two}
use Rattle.report_text.specs.Bounds.{IsBlock, IsAnswer, IsProof, AreNames}
use Rattle.report_text.specs.Form.{form_of, lists}
use Rattle.report_text.specs.Report as report
use Rattle.report_text.specs.Report.{BlockParts, ReportParts, block_text, blocks_text, report_text}
use Rattle.wire_io.specs.Causes.{Device, Rose}
use Rattle.wire_io.specs.Told.{Gains, GainsFront}
use Rattle.wire_io.specs.Laws.{Gains-none, Gains-append, GainsFront-append, GainsFront-more}
use Rattle.journal_text.specs.Bounds.{IsPart, MayStand}
use Rattle.journal_text.specs.Parts.{Part, Question, Answered, JournalParts}
use Rattle.journal_text.specs.Text as text
use Rattle.journal_text.specs.Text.{part_text, parts_text, front_text, journal_text}
use Rattle.area_search.specs.Answer.{HoldsOfLattices}
use Rattle.defect_array.specs.Place.{HoldsOnArray}
use Rattle.lattice_question.specs.Written.{IsSectionOf, HasNoSection, IsShown, Searched, StoppedAsking}
use Rattle.four_lattice.specs.Devices.{Change, GainsTold}
use Rattle.four_lattice.specs.Lattices.{IsThere}
use Rattle.four_lattice.specs.Minima.{Asked, asked, asked_on, is_open, joined, HasSinkCause, BothLater, IsBlockOf, AnswersOutput, CutsOutput, WroteOutput, StoppedOutput, Settled, IsLeft, WroteBlocks, StoppedBlocks, WroteHeads, StoppedHeads, WroteEnds, StoppedEnds, WroteAnswers, StoppedAnswers, basis_of}
use Rattle.four_lattice.specs.Synth.{Sought, Least, OnArray, Holds, IsFront, chosen_outputs, IsNamed, IsAnswersReport, IsAnswersJournal, IsHeld, IsShownIn, IsShowing, StandsWhole, StandsShown, BeginsShowing, BeginAnswers, answers_of, is_undecided}
use Rattle.area_search.specs.Searched.{StoppedSearch}
use Rattle.area_search.specs.declared.fault.SearchFault.{SearchFault}
use Rattle.audit_core.specs.Audit.{IsBelow, AreRight}
use Rattle.audit_core.specs.Laws.{AddsRight}
use Rattle.audit_core.specs.Sought.{IsSection}
use Rattle.four_lattice.specs.declared.lattices.WorkFault.{WorkFault}
use Rattle.four_lattice.specs.declared.lattices.WorkFault.TheVariants.{Write, NoMemory}
use Rattle.four_lattice.specs.declared.tally.Tally.{Tally}
use Rattle.four_lattice.proofs.TallyLaws.{no_answers_yet, joined-none, tally-more, open-undecided}
use Rattle.std.proofs.lemmas.Option.{slice_get-map, slice_get_read}
use Rattle.std.specs.Prelude.{option_map}
use Rattle.four_lattice.proofs.BlocksLaws.{names_are, input_names_are}
use Rattle.four_lattice.proofs.SynthLists.{front-trans, front-more, front-behind, front-length, answers-append, no_answers, sections-bounds, answers-bounds, section-among, all-at, front_text-more, front_text-is, journal_text-is, report_text-is, stands-within, range-split, range-below, range-without}

-- a device before and after
abbrev pub between : Device → Device → Change
between old new = record { old = old; new = new }

-- ---- what a sink tells

pub GainsFront-none : (told : Option (List ℕ)) (bytes : List ℕ) → GainsFront told told bytes
GainsFront-none told bytes = record { front = []; rest = bytes; whole = refl; gained = Gains-none told }

-- what holds where a sink tells also holds where it tells later, of less or of more
told-both : (old new : Option (List ℕ)) (bytes : List ℕ) (P Q R : Type 0) → Gains old new bytes → (P → Q → R) → IfSome old (λ _. P) → IfSome new (λ _. Q) → IfSome new (λ _. R)
told-both old None bytes P Q R g f p q = tt
told-both None (Some new) bytes P Q R g f p q = absurd g
told-both (Some old) (Some new) bytes P Q R g f p q = f p q

told-later : (old new : Option (List ℕ)) (bytes : List ℕ) (P Q : Type 0) → Gains old new bytes → (P → Q) → IfSome old (λ _. P) → IfSome new (λ _. Q)
told-later old None bytes P Q g f p = tt
told-later None (Some new) bytes P Q g f p = absurd g
told-later (Some old) (Some new) bytes P Q g f p = f p

-- the bytes are named where the sink tells
told-named : (old new : Option (List ℕ)) (bytes : List ℕ) (P : List ℕ → Type 0) → Gains old new bytes → IfSome new (λ _. P bytes) → (told : Option (List ℕ)) × GainsTold old new told × IfSome told P
told-named old None bytes P g p = (None, refl, tt)
told-named old (Some new) bytes P g p = (Some bytes, g, p)

-- ---- faults

pub later-both : (o0 o1 o2 j0 j1 j2 : Device) → BothLater (between o0 o1) (between j0 j1) → BothLater (between o1 o2) (between j1 j2) → BothLater (between o0 o2) (between j0 j2)
later-both o0 o1 o2 j0 j1 j2 a b =
    let p = a.of_out in let q = a.of_journal in let r = b.of_out in let s = b.of_journal in
    record { of_out = omega (arith, p, r); of_journal = omega (arith, q, s) }

rose-within : (a b c m : ℕ) → a ≤ b → min (b + 1) m ≤ c → min (a + 1) m ≤ c
rose-within a b c m l h = omega (arith, l, h)

rose-earlier : (a b c : ℕ) → a ≤ b → Rose b c → Rose a c
rose-earlier a b c l h = rose-within a b c (2 ^ 64 - 1) l h

rose-later : (a b c : ℕ) → Rose a b → b ≤ c → Rose a c
rose-later a b c h l = let r : min (a + 1) (2 ^ 64 - 1) ≤ b = h in within (min (a + 1) (2 ^ 64 - 1)) b c r l where
  within : (x y z : ℕ) → x ≤ y → y ≤ z → x ≤ z
  within x y z p q = omega (arith, p, q)

pub cause-later : (fault : WorkFault) (o0 o1 o2 j0 j1 j2 : Device) → BothLater (between o0 o1) (between j0 j1) → HasSinkCause fault (between o1 o2) (between j1 j2) → HasSinkCause fault (between o0 o2) (between j0 j2)
cause-later Write o0 o1 o2 j0 j1 j2 l h = elim h [ inl a ↦ inl (rose-earlier o0.faults o1.faults o2.faults l.of_out a) | inr b ↦ inr (rose-earlier j0.faults j1.faults j2.faults l.of_journal b) ]
cause-later NoMemory o0 o1 o2 j0 j1 j2 l h = tt

-- ---- blocks for outputs that are left

made : Parts → ℕ → BlockParts
made parts k = record { output = k; name = get_or parts.output_names k []; answer = NoRails 0 0; proofs = [] }

made-blocks : Parts → List ℕ → List BlockParts
made-blocks parts [] = []
made-blocks parts (k ∷ outputs) = made parts k ∷ made-blocks parts outputs

made-parts : Parts → List ℕ → List Part
made-parts parts [] = []
made-parts parts (k ∷ outputs) = Answered (made parts k) ∷ made-parts parts outputs

-- What is asked of a PLA: its names are names.
pub record IsAskedOf (a : Asked) : Type 0 where
  pub pla : IsPla a.parts
  pub rails : a.rails ≤ 1048575
  pub inputs : AreNames a.parts.input_names
  pub outputs : All IsName a.parts.output_names

made-of : (a : Asked) (k : ℕ) → IsAskedOf a → k < a.parts.outputs → IsBlockOf a k (made a.parts k)
unfolding made
made-of a k h l =
    let many = h.pla.output_names in let few = h.pla.few_outputs in
    let within : k < length a.parts.output_names = omega (arith, l, many) in
    record {
      output_is = refl;
      named = slice_get-get_or a.parts.output_names k [] within;
      bounds = record {
        output = omega (arith, l, few);
        name = All-get_or IsName a.parts.output_names k [] within h.outputs;
        answer = (omega arith, omega arith);
        has = tt;
        each = All-nil _;
        none = λ e. refl;
      };
      may_stand = tt;
    }

made-left : (a : Asked) (outputs : List ℕ) → IsAskedOf a → All (λ k. k < a.parts.outputs) outputs → IsLeft a outputs (made-blocks a.parts outputs) (made-parts a.parts outputs)
unfolding made-blocks made-parts
made-left a [] h below = record { outputs_are = refl; named = All-nil (IsNamed a.parts); answers = refl; bounds = All-nil (IsPart Two) }
made-left a (k ∷ outputs) h below =
    let of = made-of a k h (All-head (λ i. i < a.parts.outputs) k outputs below) in
    let rest = made-left a outputs h (All-tail (λ i. i < a.parts.outputs) k outputs below) in
    record {
      outputs_are = ap₂ (λ (x : ℕ) (xs : List ℕ). x ∷ xs) of.output_is rest.outputs_are;
      named = All-cons (IsNamed a.parts) (made a.parts k) (made-blocks a.parts outputs) of.named rest.named;
      answers = ap (λ (bs : List BlockParts). made a.parts k ∷ bs) rest.answers;
      bounds = All-cons (IsPart Two) (Answered (made a.parts k)) (made-parts a.parts outputs) (of.bounds, of.may_stand) rest.bounds;
    }

-- one that was begun stands before the others
left-begun : (a : Asked) (k : ℕ) (rest : List ℕ) (block : BlockParts) (more : List Part) (blocks : List BlockParts) (pending : List Part) → IsBlockOf a k block → All (IsSectionOf k) more → IsLeft a rest blocks pending
    → IsLeft a (k ∷ rest) (block ∷ blocks) ((more ++ Answered block ∷ []) ++ pending)
left-begun a k rest block more blocks pending of sections left = record {
  outputs_are = ap₂ (λ (x : ℕ) (xs : List ℕ). x ∷ xs) of.output_is left.outputs_are;
  named = All-cons (IsNamed a.parts) block blocks of.named left.named;
  answers = answers-append (more ++ Answered block ∷ []) pending
      ∙ ap₂ (λ (x y : List BlockParts). x ++ y) (answers-append more (Answered block ∷ []) ∙ ap (λ (w : List BlockParts). w ++ block ∷ []) (no_answers k more sections)) left.answers;
  bounds = All-append (IsPart Two) (more ++ Answered block ∷ []) pending (All-push (IsPart Two) more (Answered block) (sections-bounds k more sections) (of.bounds, of.may_stand)) left.bounds;
}

pub asked-of : (pla : Pla) (rails budget : ℕ) → IsPla (parts_of pla) → rails ≤ 1048575 → IsAskedOf (asked rails budget (parts_of pla))
asked-of pla rails budget h few = record { pla = h; rails = few; inputs = input_names_are pla h; outputs = names_are pla.output_names.keys }

pub asked_on-of : (pla : Pla) (array : Defects) (budget : ℕ) → IsPla (parts_of pla) → IsAskedOf (asked_on array budget (parts_of pla))
asked_on-of pla array budget h = record { pla = h; rails = omega arith; inputs = input_names_are pla h; outputs = names_are pla.output_names.keys }

-- ---- one output

stand-least : (rails : ℕ) (f : Function) (answer : Answer) → HoldsOfLattices rails f answer → MayStand answer
stand-least rails f (Found g) h = absurd h
stand-least rails f (Minimum g) h = tt
stand-least rails f (Undecided g least at after) h = tt
stand-least rails f (Mapped g a) h = absurd h
stand-least rails f (NoneMapped a) h = absurd h
stand-least rails f (MapUndecided a after) h = absurd h
stand-least rails f (NoRails on off) h = tt

stand-on : (f : Function) (array : Defects) (budget : ℕ) (answer : Answer) → HoldsOnArray f array budget answer → MayStand answer
stand-on f array budget (Found g) h = absurd h
stand-on f array budget (Minimum g) h = absurd h
stand-on f array budget (Undecided g least at after) h = absurd h
stand-on f array budget (Mapped g a) h = tt
stand-on f array budget (NoneMapped a) h = tt
stand-on f array budget (MapUndecided a after) h = tt
stand-on f array budget (NoRails on off) h = absurd h

-- an answer for what is sought may stand in a journal
may-stand : (sought : Sought) (rails budget : ℕ) (f : Function) (answer : Answer) → Holds sought rails budget f answer → MayStand answer
may-stand Least rails budget f answer h = stand-least rails f answer h
may-stand (OnArray array) rails budget f answer h = stand-on f array budget answer h

-- the name of an output, as the code reads it
pub name-at : (keys slice : List Name) (k : ℕ) (name copy : Name) → slice ≡ keys → k < length slice → name ≡ get_or slice k name → bytes_of copy ≡ bytes_of name → slice_get (map bytes_of keys) k ≡ Some (bytes_of copy)
name-at keys slice k name copy same within is copied =
    ap (λ (ns : List Name). slice_get (map bytes_of ns) k) (sym same) ∙ slice_get-map bytes_of slice k ∙ ap (option_map bytes_of) (slice_get_read slice (length slice) k name refl within is) ∙ ap (λ (n : List ℕ). Some n) (sym copied)

pub block-of : (a : Asked) (k : ℕ) (f : Function) (name : List ℕ) (answer : Answer) (proofs : List Proof) → IsAskedOf a → k < a.parts.outputs → slice_get a.parts.output_names k ≡ Some name → IsName name
    → Holds a.sought a.rails a.budget f answer → IsAnswer answer → All IsProof proofs → (lists Two (form_of answer) ≡ false → proofs ≡ [])
    → IsBlockOf a k (record { output = k; name = name; answer = answer; proofs = proofs })
block-of a k f name answer proofs h l named is_name holds is_answer each none =
    let few = h.pla.few_outputs in
    record {
      output_is = refl;
      named = named;
      bounds = record { output = omega (arith, l, few); name = is_name; answer = is_answer; has = tt; each = each; none = none };
      may_stand = may-stand a.sought a.rails a.budget f answer holds;
    }

-- nothing was written
pub cuts-none : (a : Asked) (k : ℕ) (j : Device) → IsAskedOf a → k < a.parts.outputs → CutsOutput a k (between j j)
cuts-none a k j h l = record { block = made a.parts k; of = made-of a k h l; more = []; sections = All-nil (IsSectionOf k); front = GainsFront-none j.told (parts_text Two ([] ++ Answered (made a.parts k) ∷ [])) }

-- the asking stopped
pub cuts-searched : (a : Asked) (k : ℕ) (OfSink : Type 0) (j0 j1 : Device) → IsAskedOf a → k < a.parts.outputs → StoppedAsking k j0.told j1.told j0.faults j1.faults OfSink → CutsOutput a k (between j0 j1)
cuts-searched a k OfSink j0 j1 h l st = record {
  block = made a.parts k;
  of = made-of a k h l;
  more = st.more;
  sections = st.are;
  front = subst (GainsFront j0.told j1.told) (sym (flat_map-append (part_text Two) st.more (Answered (made a.parts k) ∷ [])))
      (GainsFront-more j0.told j1.told (parts_text Two st.more) (parts_text Two (Answered (made a.parts k) ∷ [])) st.front);
}

answer-text : (more : List Part) (block : BlockParts) → parts_text Two (more ++ Answered block ∷ []) ≡ parts_text Two more ++ block_text Two block
answer-text more block = flat_map-append (part_text Two) more (Answered block ∷ []) ∙ ap (λ w. parts_text Two more ++ w) (append-nil (block_text Two block))

-- the questions were written, and no answer
pub cuts-written : (a : Asked) (k : ℕ) (f : Function) (answer : Answer) (proofs : List Proof) (j0 j1 : Device) → IsAskedOf a → k < a.parts.outputs → Searched a.rails k f a.budget j0.told j1.told answer proofs → CutsOutput a k (between j0 j1)
cuts-written a k f answer proofs j0 j1 h l s = record {
  block = made a.parts k;
  of = made-of a k h l;
  more = s.more;
  sections = s.are;
  front = subst (GainsFront j0.told j1.told) (sym (flat_map-append (part_text Two) s.more (Answered (made a.parts k) ∷ [])))
      (record { front = parts_text Two s.more; rest = parts_text Two (Answered (made a.parts k) ∷ []); whole = refl; gained = s.gained });
}

-- the answer was cut short
pub cuts-answer : (a : Asked) (k : ℕ) (f : Function) (block : BlockParts) (j0 j1 j2 : Device) → IsBlockOf a k block → Searched a.rails k f a.budget j0.told j1.told block.answer block.proofs
    → GainsFront j1.told j2.told (block_text Two block) → CutsOutput a k (between j0 j2)
cuts-answer a k f block j0 j1 j2 of s front = record {
  block = block;
  of = of;
  more = s.more;
  sections = s.are;
  front = subst (GainsFront j0.told j2.told) (sym (answer-text s.more block)) (GainsFront-append j0.told j1.told j2.told (parts_text Two s.more) (block_text Two block) s.gained front);
}

-- the answer was written
pub answers-output : (a : Asked) (k : ℕ) (f : Function) (block : BlockParts) (j0 j1 j2 : Device) → IsBlockOf a k block → slice_get a.parts.functions k ≡ Some f → Holds a.sought a.rails a.budget f block.answer
    → Searched a.rails k f a.budget j0.told j1.told block.answer block.proofs → Gains j1.told j2.told (block_text Two block) → AnswersOutput a k block (between j0 j2)
answers-output a k f block j0 j1 j2 of is holds s gained = record {
  of = of;
  function = f;
  of_output = is;
  holds = holds;
  more = s.more;
  sections = s.are;
  gained = subst (Gains j0.told j2.told) (sym (answer-text s.more block)) (Gains-append j0.told j1.told j2.told (parts_text Two s.more) (block_text Two block) s.gained gained);
  shown = told-later j1.told j2.told (block_text Two block) _ _ gained (λ h. h) s.shown;
}

-- ---- one output more

shown-more : (a : Asked) (all more : List Part) (block : BlockParts) → IsShownIn a.rails a.budget a.parts all block → IsShownIn a.rails a.budget a.parts (all ++ more) block
shown-more a all more block h = record {
  before = h.before;
  later = h.later ++ more;
  whole = ap (λ (w : List Part). w ++ more) h.whole ∙ append_assoc h.before (Answered block ∷ h.later) more;
  function = h.function;
  of_output = h.of_output;
  shown = h.shown;
}

no-section : (a : Asked) (outputs : List ℕ) (told : Option (List ℕ)) (k : ℕ) (s : Settled a outputs told) → (Contains outputs k → ⊥) → HasNoSection s.all k
no-section a outputs told k s new section c e = new (subst (Contains outputs) e (s.sections section c))

settled-later : (a : Asked) (outputs : List ℕ) (old new : Option (List ℕ)) (bytes : List ℕ) → Gains old new bytes → Settled a outputs old → Settled a outputs new
settled-later a outputs old new bytes g s = record {
  blocks = s.blocks;
  all = s.all;
  outputs_are = s.outputs_are;
  named = s.named;
  held = s.held;
  answers = s.answers;
  bounds = s.bounds;
  sections = s.sections;
  shown = told-later old new bytes _ _ g (λ h. h) s.shown;
}

settled-more : (a : Asked) (outputs : List ℕ) (k : ℕ) (block : BlockParts) (j0 j1 j2 : Device) → (Contains outputs k → ⊥) → (s : Settled a outputs j1.told) → AnswersOutput a k block (between j1 j2)
    → Settled a (outputs ++ k ∷ []) j2.told
settled-more a outputs k block j0 j1 j2 new s ans =
    let more = ans.more ++ Answered block ∷ [] in
    record {
      blocks = s.blocks ++ block ∷ [];
      all = s.all ++ more;
      outputs_are = map-append (λ (b : BlockParts). b.output) s.blocks (block ∷ []) ∙ ap₂ (λ (x : List ℕ) (y : ℕ). x ++ y ∷ []) s.outputs_are ans.of.output_is;
      named = All-push (IsNamed a.parts) s.blocks block s.named ans.of.named;
      held = All-push (IsHeld a.sought a.rails a.budget a.parts) s.blocks block s.held (record { function = ans.function; of_output = of_output; holds = ans.holds });
      answers = answers-append s.all more
          ∙ ap₂ (λ (x y : List BlockParts). x ++ y) s.answers (answers-append ans.more (Answered block ∷ []) ∙ ap (λ (w : List BlockParts). w ++ block ∷ []) (no_answers k ans.more ans.sections));
      bounds = All-append (IsPart Two) s.all more s.bounds (All-push (IsPart Two) ans.more (Answered block) (sections-bounds k ans.more ans.sections) (ans.of.bounds, ans.of.may_stand));
      sections = λ section c. elim (Contains-append_cases s.all more (Question section) c) [
        | inl here ↦ Contains-append_left outputs (k ∷ []) section.output (s.sections section here)
        | inr there ↦ Contains-append_right outputs (k ∷ []) section.output (subst (Contains (k ∷ [])) (sym (section-among k ans.more block ans.sections section there)) (0, omega arith, refl))
      ];
      shown = told-both j1.told j2.told _ _ _ _ ans.gained both s.shown ans.shown;
    } where
      of_output : slice_get a.parts.functions block.output ≡ Some ans.function
      of_output = ap (slice_get a.parts.functions) ans.of.output_is ∙ ans.of_output

      both : All (IsShownIn a.rails a.budget a.parts s.all) s.blocks
          → ((before : List Part) → HasNoSection before k → IsShown a.rails k ans.function a.budget (before ++ ans.more) block.answer block.proofs)
          → All (IsShownIn a.rails a.budget a.parts (s.all ++ (ans.more ++ Answered block ∷ []))) (s.blocks ++ block ∷ [])
      both earlier now =
          let all = s.all ++ (ans.more ++ Answered block ∷ []) in
          All-push (IsShownIn a.rails a.budget a.parts all) s.blocks block
          (All-weaker (IsShownIn a.rails a.budget a.parts s.all) (IsShownIn a.rails a.budget a.parts all) (shown-more a s.all (ans.more ++ Answered block ∷ [])) s.blocks earlier)
          (record {
            before = s.all ++ ans.more;
            later = [];
            whole = sym (append_assoc s.all ans.more (Answered block ∷ []));
            function = ans.function;
            of_output = of_output;
            shown = subst (λ output. IsShown a.rails output ans.function a.budget (s.all ++ ans.more) block.answer block.proofs) (sym ans.of.output_is)
                (now s.all (no-section a outputs j1.told k s new));
          })

blocks-more : (blocks : List BlockParts) (block : BlockParts) → blocks_text Two (blocks ++ block ∷ []) ≡ blocks_text Two blocks ++ block_text Two block
blocks-more blocks block = flat_map-append (block_text Two) blocks (block ∷ []) ∙ ap (λ w. blocks_text Two blocks ++ w) (append-nil (block_text Two block))

parts-more : (all more : List Part) → parts_text Two (all ++ more) ≡ parts_text Two all ++ parts_text Two more
parts-more all more = flat_map-append (part_text Two) all more

always : {P : Type 0} (told : Option (List ℕ)) → P → IfSome told (λ _. P)
always None p = tt
always (Some bytes) p = p

settled-none : (a : Asked) (told : Option (List ℕ)) → Settled a [] told
settled-none a told = record {
  blocks = [];
  all = [];
  outputs_are = refl;
  named = All-nil (IsNamed a.parts);
  held = All-nil (IsHeld a.sought a.rails a.budget a.parts);
  answers = refl;
  bounds = All-nil (IsPart Two);
  sections = λ section c. absurd (omega (arith, c.1));
  shown = always told (All-nil (IsShownIn a.rails a.budget a.parts []));
}

none-right : (a : Asked) → AreRight (basis_of a) []
none-right a before part later whole = absurd (let n = ap length whole in omega (arith, n, length-append before (part ∷ later)))

below-parts : (k : ℕ) (all : List Part) → All (λ (b : BlockParts). b.output < k) (answers_of all) → All (IsBelow k) all
below-parts k [] low = All-nil (IsBelow k)
below-parts k (Question s ∷ all) low = All-cons (IsBelow k) (Question s) all tt (below-parts k all low)
below-parts k (Answered block ∷ all) low =
    All-cons (IsBelow k) (Answered block) all (All-head (λ (b : BlockParts). b.output < k) block (answers_of all) low) (below-parts k all (All-tail (λ (b : BlockParts). b.output < k) block (answers_of all) low))

below-blocks : (k : ℕ) (blocks : List BlockParts) → All (λ i. i < k) (map (λ (b : BlockParts). b.output) blocks) → All (λ (b : BlockParts). b.output < k) blocks
below-blocks k [] low = All-nil (λ (b : BlockParts). b.output < k)
below-blocks k (block ∷ blocks) low =
    let outputs = map (λ (b : BlockParts). b.output) blocks in
    All-cons (λ (b : BlockParts). b.output < k) block blocks (All-head (λ i. i < k) block.output outputs low) (below-blocks k blocks (All-tail (λ i. i < k) block.output outputs low))

-- the parts with those of one output more
right-more : (law : AddsRight) (a : Asked) (outputs : List ℕ) (k : ℕ) (block : BlockParts) (told : Option (List ℕ)) (j : Change) → IsPla a.parts → All (λ i. i < k) outputs → (Contains outputs k → ⊥) → (s : Settled a outputs told) → (ans : AnswersOutput a k block j)
    → AreRight (basis_of a) s.all → ((before : List Part) → HasNoSection before k → IsShown a.rails k ans.function a.budget (before ++ ans.more) block.answer block.proofs) → AreRight (basis_of a) (s.all ++ (ans.more ++ Answered block ∷ []))
right-more law a outputs k block told j pla low new s ans right shows =
    let shown = subst (λ output. IsShown a.rails output ans.function a.budget (s.all ++ ans.more) block.answer block.proofs) (sym ans.of.output_is) (shows s.all (no-section a outputs told k s new)) in
    let is = ap (slice_get a.parts.functions) ans.of.output_is ∙ ans.of_output in
    let earlier : All (IsBelow k) s.all =
    below-parts k s.all (subst (All (λ (b : BlockParts). b.output < k)) (sym s.answers) (below-blocks k s.blocks (subst (All (λ i. i < k)) (sym s.outputs_are) low))) in
    let later : All (IsBelow block.output) (s.all ++ ans.more) =
    subst (λ output. All (IsBelow output) (s.all ++ ans.more)) (sym ans.of.output_is)
    (All-append (IsBelow k) s.all ans.more earlier (All-weaker (IsSectionOf k) (IsBelow k) (section-below k) ans.more ans.sections)) in
    law (basis_of a) s.all ans.more block ans.function pla right (All-weaker (IsSectionOf k) (IsSection (λ q. q.output ≡ block.output)) (section-for k block.output (sym ans.of.output_is)) ans.more ans.sections)
    (record { later = later; name = ans.of.named; function = is }) shown.replayed shown.good shown.listed where
      section-below : (k : ℕ) (p : Part) → IsSectionOf k p → IsBelow k p
      section-below k (Question q) h = tt
      section-below k (Answered b) h = absurd h

      section-for : (k output : ℕ) → k ≡ output → (p : Part) → IsSectionOf k p → IsSection (λ q. q.output ≡ output) p
      section-for k output e (Question q) h = h.0 ∙ e
      section-for k output e (Answered b) h = h

-- nothing is written yet
pub wrote-none : (a : Asked) (o j : Device) → WroteBlocks a [] no_answers_yet (between o o) (between j j)
unfolding settled-none
wrote-none a o j = record {
  settled = settled-none a j.told;
  right = always j.told (none-right a);
  tallied = refl;
  out_gained = Gains-none o.told;
  journal_gained = Gains-none j.told;
  later = record { of_out = omega arith; of_journal = omega arith };
}

pub wrote-more : (law : AddsRight) (a : Asked) (outputs : List ℕ) (k : ℕ) (d e f : Tally) (o0 o1 o2 j0 j1 j2 : Device) → IsPla a.parts → All (λ i. i < k) outputs → (Contains outputs k → ⊥) → f ≡ joined d e
    → WroteBlocks a outputs d (between o0 o1) (between j0 j1) → WroteOutput a k e (between o1 o2) (between j1 j2) → WroteBlocks a (outputs ++ k ∷ []) f (between o0 o2) (between j0 j2)
unfolding settled-more
wrote-more law a outputs k d e f o0 o1 o2 j0 j1 j2 pla low new sum w now = record {
  settled = settled-more a outputs k now.block j0 j1 j2 new w.settled now.answers;
  right = told-both j1.told j2.told _ _ _ _ now.answers.gained (right-more law a outputs k now.block j1.told (between j1 j2) pla low new w.settled now.answers) w.right now.answers.shown;
  tallied = sum ∙ ap₂ joined w.tallied now.tallied ∙ tally-more w.settled.blocks now.block;
  out_gained = subst (Gains o0.told o2.told) (sym (blocks-more w.settled.blocks now.block)) (Gains-append o0.told o1.told o2.told _ _ w.out_gained now.gained);
  journal_gained = subst (Gains j0.told j2.told) (sym (parts-more w.settled.all (now.answers.more ++ Answered now.block ∷ [])))
      (Gains-append j0.told j1.told j2.told _ _ w.journal_gained now.answers.gained);
  later = later-both o0 o1 o2 j0 j1 j2 w.later now.later;
}

pub stopped-more : (a : Asked) (outputs : List ℕ) (k : ℕ) (rest : List ℕ) (d : Tally) (fault : WorkFault) (o0 o1 o2 j0 j1 j2 : Device) → IsAskedOf a → All (λ i. i < a.parts.outputs) rest
    → (Contains outputs k → ⊥) → WroteBlocks a outputs d (between o0 o1) (between j0 j1) → StoppedOutput a k fault (between o1 o2) (between j1 j2)
    → StoppedBlocks a (outputs ++ k ∷ rest) fault (between o0 o2) (between j0 j2)
unfolding settled-more settled-later
stopped-more a outputs k rest d fault o0 o1 o2 j0 j1 j2 h below new w stop = elim stop.where_it_stopped [ inl s ↦ cut s.0 s.1 | inr s ↦ answered s.0 s.1 s.2 ] where
  left : IsLeft a rest (made-blocks a.parts rest) (made-parts a.parts rest)
  left = made-left a rest h below

  cut : CutsOutput a k (between j1 j2) → o2.told ≡ o1.told → StoppedBlocks a (outputs ++ k ∷ rest) fault (between o0 o2) (between j0 j2)
  cut s same = record {
    first = outputs;
    last = k ∷ rest;
    whole = refl;
    settled = settled-later a outputs j1.told j2.told s.front.front s.front.gained w.settled;
    left = s.block ∷ made-blocks a.parts rest;
    pending = (s.more ++ Answered s.block ∷ []) ++ made-parts a.parts rest;
    is_left = left-begun a k rest s.block s.more (made-blocks a.parts rest) (made-parts a.parts rest) s.of s.sections left;
    front = record { front = blocks_text Two w.settled.blocks; rest = []; whole = sym (append-nil (blocks_text Two w.settled.blocks)); gained = subst (λ t. Gains o0.told t (blocks_text Two w.settled.blocks)) (sym same) w.out_gained };
    tail = s.front.front;
    tail_front = front-trans s.front.front (parts_text Two (s.more ++ Answered s.block ∷ [])) (parts_text Two ((s.more ++ Answered s.block ∷ []) ++ made-parts a.parts rest)) (s.front.rest, s.front.whole)
        (parts_text Two (made-parts a.parts rest), parts-more (s.more ++ Answered s.block ∷ []) (made-parts a.parts rest));
    gained = Gains-append j0.told j1.told j2.told (parts_text Two w.settled.all) s.front.front w.journal_gained s.front.gained;
    later = later-both o0 o1 o2 j0 j1 j2 w.later stop.later;
    cause = cause-later fault o0 o1 o2 j0 j1 j2 w.later stop.cause;
  }

  answered : (block : BlockParts) → AnswersOutput a k block (between j1 j2) → GainsFront o1.told o2.told (block_text Two block) → StoppedBlocks a (outputs ++ k ∷ rest) fault (between o0 o2) (between j0 j2)
  answered block ans front = record {
    first = outputs ++ k ∷ [];
    last = rest;
    whole = sym (append_assoc outputs (k ∷ []) rest);
    settled = settled-more a outputs k block j0 j1 j2 new w.settled ans;
    left = made-blocks a.parts rest;
    pending = made-parts a.parts rest;
    is_left = left;
    front = subst (GainsFront o0.told o2.told) (sym (blocks-more w.settled.blocks block)) (GainsFront-append o0.told o1.told o2.told (blocks_text Two w.settled.blocks) (block_text Two block) w.out_gained front);
    tail = [];
    tail_front = (parts_text Two (made-parts a.parts rest), refl);
    gained = subst (Gains j0.told j2.told) (sym (append-nil (parts_text Two (w.settled.all ++ (ans.more ++ Answered block ∷ [])))))
        (subst (Gains j0.told j2.told) (sym (parts-more w.settled.all (ans.more ++ Answered block ∷ []))) (Gains-append j0.told j1.told j2.told _ _ w.journal_gained ans.gained));
    later = later-both o0 o1 o2 j0 j1 j2 w.later stop.later;
    cause = cause-later fault o0 o1 o2 j0 j1 j2 w.later stop.cause;
  }

-- the one output that is asked for
pub wrote-one : (law : AddsRight) (a : Asked) (k : ℕ) (d : Tally) (o0 o1 j0 j1 : Device) → IsPla a.parts → WroteOutput a k d (between o0 o1) (between j0 j1) → WroteBlocks a (k ∷ []) d (between o0 o1) (between j0 j1)
wrote-one law a k d o0 o1 j0 j1 pla now = wrote-more law a [] k no_answers_yet d d o0 o0 o1 j0 j0 j1 pla (All-nil (λ i. i < k)) (λ c. none k c) (joined-none d) (wrote-none a o0 j0) now where
  none : (k : ℕ) → Contains [] k → ⊥
  none k c = omega (arith, c.1)

pub stopped-one : (a : Asked) (k : ℕ) (fault : WorkFault) (o0 o1 j0 j1 : Device) → IsAskedOf a → StoppedOutput a k fault (between o0 o1) (between j0 j1) → StoppedBlocks a (k ∷ []) fault (between o0 o1) (between j0 j1)
stopped-one a k fault o0 o1 j0 j1 h st = stopped-more a [] k [] no_answers_yet fault o0 o0 o1 j0 j0 j1 h (All-nil (λ i. i < a.parts.outputs)) (λ c. none k c) (wrote-none a o0 j0) st where
  none : (k : ℕ) → Contains [] k → ⊥
  none k c = omega (arith, c.1)

-- ---- the whole

told-pair : (told : Option (List ℕ)) (P Q : Type 0) → IfSome told (λ _. P) → IfSome told (λ _. Q) → IfSome told (λ _. P × Q)
told-pair None P Q p q = tt
told-pair (Some bytes) P Q p q = (p, q)

report-of : Asked → List BlockParts → ReportParts
report-of a blocks = record { version = Two; rails = a.rails; input_names = a.parts.input_names; blocks = blocks }

journal-of : Asked → List Part → JournalParts
journal-of a parts = record { version = Two; rails = a.rails; parts = parts }

is-report : (a : Asked) (output : Option ℕ) (blocks : List BlockParts) (all : List Part) → IsAskedOf a → map (λ block. block.output) blocks ≡ chosen_outputs output a.parts.outputs → All (IsNamed a.parts) blocks
    → answers_of all ≡ blocks → All (IsPart Two) all → IsAnswersReport a.rails output a.parts (report-of a blocks)
unfolding report-of
is-report a output blocks all h outputs named answers bounds = record {
  version = refl;
  rails_are = refl;
  names = refl;
  outputs = outputs;
  named = named;
  bounds = record { rails = h.rails; names = h.inputs; blocks = subst (All (IsBlock Two)) answers (answers-bounds all bounds) };
}

is-journal : (a : Asked) (blocks : List BlockParts) (all : List Part) → IsAskedOf a → answers_of all ≡ blocks → All (IsPart Two) all → IsAnswersJournal a.rails (report-of a blocks) (journal-of a all)
unfolding report-of journal-of
is-journal a blocks all h answers bounds = record { version = refl; rails_are = refl; answers = answers; bounds = record { rails = h.rails; parts = bounds } }

journal-gained : (a : Asked) (all : List Part) (b0 b1 b2 b3 : Option (List ℕ)) → Gains b0 b1 (text.head_text Two a.rails) → Gains b1 b2 (parts_text Two all) → Gains b2 b3 (codes "end\n") → Gains b0 b3 (journal_text (journal-of a all))
unfolding journal-of
journal-gained a all b0 b1 b2 b3 g h k =
    subst (Gains b0 b3) (sym (journal_text-is Two a.rails all ∙ ap (λ w. w ++ codes "end\n") (front_text-is Two a.rails all)))
    (Gains-append b0 b2 b3 (text.head_text Two a.rails ++ parts_text Two all) (codes "end\n") (Gains-append b0 b1 b2 (text.head_text Two a.rails) (parts_text Two all) g h) k)

report-gained : (a : Asked) (blocks : List BlockParts) (b0 b1 b2 b3 : Option (List ℕ)) → Gains b0 b1 (report.head_text Two a.rails a.parts.input_names) → Gains b1 b2 (blocks_text Two blocks) → Gains b2 b3 (codes "end\n")
    → Gains b0 b3 (report_text (report-of a blocks))
unfolding report-of
report-gained a blocks b0 b1 b2 b3 g h k =
    subst (Gains b0 b3) (sym (report_text-is (record { version = Two; rails = a.rails; input_names = a.parts.input_names; blocks = blocks })))
    (Gains-append b0 b1 b3 (report.head_text Two a.rails a.parts.input_names) (blocks_text Two blocks ++ codes "end\n") g (Gains-append b1 b2 b3 (blocks_text Two blocks) (codes "end\n") h k))

pub answers-whole : (a : Asked) (output : Option ℕ) (d : Tally) (o0 o1 o2 o3 j0 j1 j2 j3 : Device) → IsAskedOf a → WroteHeads a.rails a.parts.input_names (between o0 o1) (between j0 j1)
    → WroteBlocks a (chosen_outputs output a.parts.outputs) d (between o1 o2) (between j1 j2) → WroteEnds (between o2 o3) (between j2 j3) → WroteAnswers a output d (between o0 o3) (between j0 j3)
unfolding report-of journal-of
answers-whole a output d o0 o1 o2 o3 j0 j1 j2 j3 h heads w ends =
    let s = w.settled in
    let r = report-of a s.blocks in
    let j = journal-of a s.all in
    let named = told-named j0.told j3.told (journal_text j) (IsShowing a.rails a.budget a.parts r) (journal-gained a s.all j0.told j1.told j2.told j3.told heads.journal_gained w.journal_gained ends.journal_gained)
    (told-later j2.told j3.told (codes "end\n") _ (IsShowing a.rails a.budget a.parts r (journal_text j)) ends.journal_gained
    (λ both. record { journal = j; is = is-journal a s.blocks s.all h s.answers s.bounds; text = refl; shown = both.0; audited = both.1 })
    (told-pair j2.told (All (IsShownIn a.rails a.budget a.parts s.all) s.blocks) (AreRight (basis_of a) s.all) s.shown w.right)) in
    record {
      bytes = report_text r;
      told = named.0;
      holds = record {
        answers = record {
          report = r;
          is = is-report a output s.blocks s.all h s.outputs_are s.named s.answers s.bounds;
          text = refl;
          held = s.held;
          shown = named.2;
          undecided_is = ap is_open w.tallied ∙ open-undecided s.blocks;
        };
        tallied = w.tallied;
      };
      out_gained = report-gained a s.blocks o0.told o1.told o2.told o3.told heads.out_gained w.out_gained ends.out_gained;
      journal_gained = named.1;
      later = later-both o0 o1 o3 j0 j1 j3 heads.later (later-both o1 o2 o3 j1 j2 j3 w.later ends.later);
    }

-- ---- what stands where writing stopped

append-some : {X : Type 0} (before later : List X) (x : X) → [] ≡ before ++ x ∷ later → ⊥
append-some before later x e = let l = ap length e ∙ length-append before (x ∷ later) in omega (arith, l)

-- a block that stands whole is a settled one
settled-stands : (a : Asked) (blocks left : List BlockParts) (bytes : List ℕ) → (left ≡ []) ⊎ (length bytes ≤ length (report.head_text Two a.rails a.parts.input_names ++ blocks_text Two blocks))
    → (block : BlockParts) → StandsWhole (report-of a (blocks ++ left)) bytes block → (before : List BlockParts) × (mid : List BlockParts) × (blocks ≡ before ++ block ∷ mid)
unfolding report-of
settled-stands a blocks left bytes short block w = elim short [
  | inl none ↦ (w.before, w.later, sym (append-nil blocks) ∙ ap (λ (l : List BlockParts). blocks ++ l) (sym none) ∙ w.whole)
  | inr few ↦
      let head = report.head_text Two a.rails a.parts.input_names in
      let fits = front-length (head ++ blocks_text Two (w.before ++ block ∷ [])) bytes w.front in
      let here = length-append head (blocks_text Two (w.before ++ block ∷ [])) in
      let there = length-append head (blocks_text Two blocks) in
      let r = stands-within blocks left w.before w.later block w.whole (omega (arith, few, fits, here, there)) in
      (w.before, r.0, r.1)
]

front-shown : (a : Asked) (all : List Part) (block : BlockParts) (h : IsShownIn a.rails a.budget a.parts all block) → IsFront (front_text Two a.rails (h.before ++ Answered block ∷ [])) (front_text Two a.rails all)
front-shown a all block h =
    (parts_text Two h.later, ap (front_text Two a.rails) (h.whole ∙ sym (append_assoc h.before (Answered block ∷ []) h.later)) ∙ front_text-more Two a.rails (h.before ++ Answered block ∷ []) h.later)

stands-shown : (a : Asked) (all pending : List Part) (bytes : List ℕ) (block : BlockParts) → IsFront (front_text Two a.rails all) bytes → IsShownIn a.rails a.budget a.parts all block
    → StandsShown a.rails a.budget a.parts (journal-of a (all ++ pending)) bytes block
unfolding journal-of shown-more
stands-shown a all pending bytes block front h = record {
  shown = shown-more a all pending block h;
  stands = front-trans (front_text Two a.rails (h.before ++ Answered block ∷ [])) (front_text Two a.rails all) bytes (front-shown a all block h) front;
}

answers-begun : (a : Asked) (output : Option ℕ) (first last : List ℕ) (old now : Option (List ℕ)) (s : Settled a first now) (left : List BlockParts) (pending : List Part) (bytes written : List ℕ) → IsAskedOf a
    → IsLeft a last left pending → first ++ last ≡ chosen_outputs output a.parts.outputs
    → IsFront bytes (report_text (report-of a (s.blocks ++ left))) → (left ≡ []) ⊎ (length bytes ≤ length (report.head_text Two a.rails a.parts.input_names ++ blocks_text Two s.blocks))
    → Gains old now written → IsFront written (journal_text (journal-of a (s.all ++ pending))) → (s.blocks ≡ []) ⊎ IsFront (front_text Two a.rails s.all) written
    → (told : Option (List ℕ)) × GainsTold old now told × BeginAnswers a.sought a.rails a.budget output a.parts bytes told
answers-begun a output first last old now s left pending bytes written h l whole front short gained begun stands =
    let named = told-named old now written (BeginsShowing a.rails a.budget a.parts r bytes) gained (told-later now now [] _ (BeginsShowing a.rails a.budget a.parts r bytes written) (Gains-none now) showing s.shown) in (
      named.0,
      named.1,
      record {
        report = r;
        is = is-report a output (s.blocks ++ left) (s.all ++ pending) h outputs (All-append (IsNamed a.parts) s.blocks left s.named l.named) answers bounds;
        front = front;
        held = λ block w. let e = settled-stands a s.blocks left bytes short block w in all-at (IsHeld a.sought a.rails a.budget a.parts) e.0 e.1 block (subst (All (IsHeld a.sought a.rails a.budget a.parts)) e.2 s.held);
        shown = named.2;
      },
    ) where
      r : ReportParts
      r = report-of a (s.blocks ++ left)

      outputs : map (λ block. block.output) (s.blocks ++ left) ≡ chosen_outputs output a.parts.outputs
      outputs = map-append (λ (b : BlockParts). b.output) s.blocks left ∙ ap₂ (λ (x y : List ℕ). x ++ y) s.outputs_are l.outputs_are ∙ whole

      answers : answers_of (s.all ++ pending) ≡ s.blocks ++ left
      answers = answers-append s.all pending ∙ ap₂ (λ (x y : List BlockParts). x ++ y) s.answers l.answers

      bounds : All (IsPart Two) (s.all ++ pending)
      bounds = All-append (IsPart Two) s.all pending s.bounds l.bounds

      showing : All (IsShownIn a.rails a.budget a.parts s.all) s.blocks → BeginsShowing a.rails a.budget a.parts r bytes written
      showing shown = record {
        journal = journal-of a (s.all ++ pending);
        is = is-journal a (s.blocks ++ left) (s.all ++ pending) h answers bounds;
        front = begun;
        shown = λ block w. standing block (settled-stands a s.blocks left bytes short block w);
      } where
        standing : (block : BlockParts) → (before : List BlockParts) × (mid : List BlockParts) × (s.blocks ≡ before ++ block ∷ mid) → StandsShown a.rails a.budget a.parts (journal-of a (s.all ++ pending)) written block
        standing block e = elim stands [
          | inl none ↦ absurd (append-some e.0 e.1 block (sym none ∙ e.2))
          | inr f ↦ stands-shown a s.all pending written block f (all-at (IsShownIn a.rails a.budget a.parts s.all) e.0 e.1 block (subst (All (IsShownIn a.rails a.budget a.parts s.all)) e.2 shown))
        ]

pub chosen-below : (output : Option ℕ) (many : ℕ) → IsThere output many → All (λ k. k < many) (chosen_outputs output many)
chosen-below None many there = range-below 0 many many (omega arith)
chosen-below (Some k) many there = All-cons (λ i. i < many) k [] there (All-nil (λ i. i < many))

-- the text of a report is its head, its blocks, and what follows
report-front : (a : Asked) (blocks left : List BlockParts) (front : List ℕ) → IsFront front (blocks_text Two blocks) → IsFront (report.head_text Two a.rails a.parts.input_names ++ front) (report_text (report-of a (blocks ++ left)))
unfolding report-of
report-front a blocks left front f =
    let head = report.head_text Two a.rails a.parts.input_names in
    let all : blocks_text Two (blocks ++ left) ++ codes "end\n" ≡ blocks_text Two blocks ++ (blocks_text Two left ++ codes "end\n") =
    ap (λ w. w ++ codes "end\n") (flat_map-append (block_text Two) blocks left) ∙ append_assoc (blocks_text Two blocks) (blocks_text Two left) (codes "end\n") in
    subst (IsFront (head ++ front)) (sym (report_text-is (record { version = Two; rails = a.rails; input_names = a.parts.input_names; blocks = blocks ++ left })))
    (front-behind head front (blocks_text Two (blocks ++ left) ++ codes "end\n")
    (front-trans front (blocks_text Two blocks) (blocks_text Two (blocks ++ left) ++ codes "end\n") f (blocks_text Two left ++ codes "end\n", all)))

-- the text of a journal is its head, its parts, and what follows
journal-front : (a : Asked) (all pending : List Part) (tail : List ℕ) → IsFront tail (parts_text Two pending) → IsFront (text.head_text Two a.rails ++ (parts_text Two all ++ tail)) (journal_text (journal-of a (all ++ pending)))
unfolding journal-of
journal-front a all pending tail f =
    let head = text.head_text Two a.rails in
    let parts = head ++ parts_text Two (all ++ pending) in
    subst (IsFront (head ++ (parts_text Two all ++ tail))) (sym (journal_text-is Two a.rails (all ++ pending) ∙ ap (λ w. w ++ codes "end\n") (front_text-is Two a.rails (all ++ pending))))
    (front-trans (head ++ (parts_text Two all ++ tail)) parts (parts ++ codes "end\n")
    (front-behind head (parts_text Two all ++ tail) (parts_text Two (all ++ pending))
    (subst (IsFront (parts_text Two all ++ tail)) (sym (parts-more all pending)) (front-behind (parts_text Two all) tail (parts_text Two pending) f)))
    (codes "end\n", refl))

pub heads-stopped : (a : Asked) (output : Option ℕ) (fault : WorkFault) (o0 o1 j0 j1 : Device) → IsAskedOf a → IsThere output a.parts.outputs → StoppedHeads a.rails a.parts.input_names fault (between o0 o1) (between j0 j1)
    → StoppedAnswers a output fault (between o0 o1) (between j0 j1)
unfolding settled-none
heads-stopped a output fault o0 o1 j0 j1 h there st =
    let outputs = chosen_outputs output a.parts.outputs in
    let head = report.head_text Two a.rails a.parts.input_names in
    let blocks = made-blocks a.parts outputs in
    let parts = made-parts a.parts outputs in
    let lines = text.head_text Two a.rails in
    let fits : length st.out_front.front ≤ length head = front-length st.out_front.front head (st.out_front.rest, st.out_front.whole) in
    let same : length (head ++ []) ≡ length head = ap length (append-nil head) in
    let r = answers-begun a output [] outputs j0.told j1.told (settled-none a j1.told) blocks parts st.out_front.front st.journal_front.front h (made-left a outputs h (chosen-below output a.parts.outputs there)) refl
    (front-trans st.out_front.front head (report_text (report-of a ([] ++ blocks))) (st.out_front.rest, st.out_front.whole)
    (subst (λ w. IsFront w (report_text (report-of a ([] ++ blocks)))) (append-nil head) (report-front a [] blocks [] ([], refl))))
    (inr (omega (arith, fits, same)))
    st.journal_front.gained
    (front-trans st.journal_front.front lines (journal_text (journal-of a ([] ++ parts))) (st.journal_front.rest, st.journal_front.whole)
    (subst (λ w. IsFront w (journal_text (journal-of a ([] ++ parts)))) (append-nil lines) (journal-front a [] parts [] (parts_text Two parts, refl))))
    (inl refl) in
    record { bytes = st.out_front.front; told = r.0; stands = r.2; out_gained = st.out_front.gained; journal_gained = r.1; later = st.later; cause = st.cause }

pub blocks-stopped : (a : Asked) (output : Option ℕ) (fault : WorkFault) (o0 o1 o2 j0 j1 j2 : Device) → IsAskedOf a → WroteHeads a.rails a.parts.input_names (between o0 o1) (between j0 j1)
    → StoppedBlocks a (chosen_outputs output a.parts.outputs) fault (between o1 o2) (between j1 j2) → StoppedAnswers a output fault (between o0 o2) (between j0 j2)
blocks-stopped a output fault o0 o1 o2 j0 j1 j2 h heads st =
    let s = st.settled in
    let head = report.head_text Two a.rails a.parts.input_names in
    let lines = text.head_text Two a.rails in
    let front : IsFront st.front.front (blocks_text Two s.blocks) = (st.front.rest, st.front.whole) in
    let written = lines ++ (parts_text Two s.all ++ st.tail) in
    let r = answers-begun a output st.first st.last j0.told j2.told s st.left st.pending (head ++ st.front.front) written h st.is_left (sym st.whole)
    (report-front a s.blocks st.left st.front.front front)
    (inr (front-length (head ++ st.front.front) (head ++ blocks_text Two s.blocks) (front-behind head st.front.front (blocks_text Two s.blocks) front)))
    (Gains-append j0.told j1.told j2.told lines (parts_text Two s.all ++ st.tail) heads.journal_gained st.gained)
    (journal-front a s.all st.pending st.tail st.tail_front)
    (inr (subst (λ w. IsFront w written) (sym (front_text-is Two a.rails s.all)) (front-behind lines (parts_text Two s.all) (parts_text Two s.all ++ st.tail) (st.tail, refl)))) in
    record {
      bytes = head ++ st.front.front;
      told = r.0;
      stands = r.2;
      out_gained = Gains-append o0.told o1.told o2.told head st.front.front heads.out_gained st.front.gained;
      journal_gained = r.1;
      later = later-both o0 o1 o2 j0 j1 j2 heads.later st.later;
      cause = cause-later fault o0 o1 o2 j0 j1 j2 heads.later st.cause;
    }

-- all blocks and parts are written, and of the last lines a front
report-ended : (a : Asked) (blocks : List BlockParts) (end : List ℕ) → IsFront end (codes "end\n") → IsFront (report.head_text Two a.rails a.parts.input_names ++ (blocks_text Two blocks ++ end)) (report_text (report-of a (blocks ++ [])))
unfolding report-of
report-ended a blocks end f =
    let head = report.head_text Two a.rails a.parts.input_names in
    subst (λ (bs : List BlockParts). IsFront (head ++ (blocks_text Two blocks ++ end)) (report_text (record { version = Two; rails = a.rails; input_names = a.parts.input_names; blocks = bs }))) (sym (append-nil blocks))
    (subst (IsFront (head ++ (blocks_text Two blocks ++ end))) (sym (report_text-is (record { version = Two; rails = a.rails; input_names = a.parts.input_names; blocks = blocks })))
    (front-behind head (blocks_text Two blocks ++ end) (blocks_text Two blocks ++ codes "end\n") (front-behind (blocks_text Two blocks) end (codes "end\n") f)))

journal-ended : (a : Asked) (all : List Part) (end : List ℕ) → IsFront end (codes "end\n") → IsFront (front_text Two a.rails all ++ end) (journal_text (journal-of a (all ++ [])))
unfolding journal-of
journal-ended a all end f =
    subst (λ (ps : List Part). IsFront (front_text Two a.rails all ++ end) (journal_text (record { version = Two; rails = a.rails; parts = ps }))) (sym (append-nil all))
    (subst (IsFront (front_text Two a.rails all ++ end)) (sym (journal_text-is Two a.rails all)) (front-behind (front_text Two a.rails all) end (codes "end\n") f))

pub ends-stopped : (a : Asked) (output : Option ℕ) (d : Tally) (fault : WorkFault) (o0 o1 o2 o3 j0 j1 j2 j3 : Device) → IsAskedOf a → WroteHeads a.rails a.parts.input_names (between o0 o1) (between j0 j1)
    → WroteBlocks a (chosen_outputs output a.parts.outputs) d (between o1 o2) (between j1 j2) → StoppedEnds fault (between o2 o3) (between j2 j3) → StoppedAnswers a output fault (between o0 o3) (between j0 j3)
unfolding settled-later
ends-stopped a output d fault o0 o1 o2 o3 j0 j1 j2 j3 h heads w st =
    let outputs = chosen_outputs output a.parts.outputs in
    let s = settled-later a outputs j2.told j3.told st.journal_front.front st.journal_front.gained w.settled in
    let head = report.head_text Two a.rails a.parts.input_names in
    let lines = text.head_text Two a.rails in
    let bytes = head ++ (blocks_text Two s.blocks ++ st.out_front.front) in
    let parts : Gains j0.told j2.told (front_text Two a.rails s.all) =
    subst (Gains j0.told j2.told) (sym (front_text-is Two a.rails s.all)) (Gains-append j0.told j1.told j2.told lines (parts_text Two s.all) heads.journal_gained w.journal_gained) in
    let r = answers-begun a output outputs [] j0.told j3.told s [] [] bytes (front_text Two a.rails s.all ++ st.journal_front.front) h (made-none a) (append-nil outputs)
    (report-ended a s.blocks st.out_front.front (st.out_front.rest, st.out_front.whole)) (inl refl)
    (Gains-append j0.told j2.told j3.told (front_text Two a.rails s.all) st.journal_front.front parts st.journal_front.gained)
    (journal-ended a s.all st.journal_front.front (st.journal_front.rest, st.journal_front.whole))
    (inr (front-more (front_text Two a.rails s.all) st.journal_front.front)) in
    record {
      bytes = bytes;
      told = r.0;
      stands = r.2;
      out_gained = Gains-append o0.told o1.told o3.told head (blocks_text Two s.blocks ++ st.out_front.front) heads.out_gained
          (Gains-append o1.told o2.told o3.told (blocks_text Two s.blocks) st.out_front.front w.out_gained st.out_front.gained);
      journal_gained = r.1;
      later = later-both o0 o1 o3 j0 j1 j3 heads.later (later-both o1 o2 o3 j1 j2 j3 w.later st.later);
      cause = cause-later fault o0 o1 o3 j0 j1 j3 heads.later (cause-later fault o1 o2 o3 j1 j2 j3 w.later st.cause);
    } where
      made-none : (a : Asked) → IsLeft a [] [] []
      made-none a = record { outputs_are = refl; named = All-nil (IsNamed a.parts); answers = refl; bounds = All-nil (IsPart Two) }

-- ---- outputs in order

from-none : (first : ℕ) → range_with_len first (first - first) ≡ []
from-none first = let e : first - first ≡ 0 = omega arith in ap (range_with_len first) e

-- the outputs up to one, that one, and those behind it
from-split : (first k end : ℕ) → first ≤ k → k < end → range_with_len first (end - first) ≡ range_with_len first (k - first) ++ k ∷ range_with_len (k + 1) (end - (k + 1))
from-split first k end p q =
    let e : end - first ≡ (k - first) + suc (end - (k + 1)) = omega (arith, p, q) in
    let f : first + (k - first) ≡ k = omega (arith, p) in
    ap (range_with_len first) e ∙ range-split first (k - first) (suc (end - (k + 1))) ∙ ap (λ n. range_with_len first (k - first) ++ range_with_len n (suc (end - (k + 1)))) f

pub from-more : (first k : ℕ) → first ≤ k → range_with_len first (k + 1 - first) ≡ range_with_len first (k - first) ++ k ∷ []
from-more first k p =
    let e : k + 1 - first ≡ (k - first) + 1 = omega (arith, p) in
    let f : first + (k - first) ≡ k = omega (arith, p) in
    ap (range_with_len first) e ∙ range-split first (k - first) 1 ∙ ap (λ n. range_with_len first (k - first) ++ range_with_len n 1) f

pub outputs-none : (a : Asked) (first : ℕ) (o j : Device) → WroteBlocks a (range_with_len first (first - first)) no_answers_yet (between o o) (between j j)
outputs-none a first o j = subst (λ (ks : List ℕ). WroteBlocks a ks no_answers_yet (between o o) (between j j)) (sym (from-none first)) (wrote-none a o j)

pub outputs-more : (law : AddsRight) (a : Asked) (first k : ℕ) (d e f : Tally) (o0 o1 o2 j0 j1 j2 : Device) → IsPla a.parts → first ≤ k → f ≡ joined d e
    → WroteBlocks a (range_with_len first (k - first)) d (between o0 o1) (between j0 j1) → WroteOutput a k e (between o1 o2) (between j1 j2)
    → WroteBlocks a (range_with_len first (k + 1 - first)) f (between o0 o2) (between j0 j2)
outputs-more law a first k d e f o0 o1 o2 j0 j1 j2 pla p sum w now =
    subst (λ (ks : List ℕ). WroteBlocks a ks f (between o0 o2) (between j0 j2)) (sym (from-more first k p))
    (wrote-more law a (range_with_len first (k - first)) k d e f o0 o1 o2 j0 j1 j2 pla (range-below first (k - first) k (omega (arith, p))) (range-without first (k - first) k (omega (arith, p))) sum w now)

pub outputs-stopped : (a : Asked) (first k end : ℕ) (d : Tally) (fault : WorkFault) (o0 o1 o2 j0 j1 j2 : Device) → IsAskedOf a → first ≤ k → k < end → end ≤ a.parts.outputs
    → WroteBlocks a (range_with_len first (k - first)) d (between o0 o1) (between j0 j1) → StoppedOutput a k fault (between o1 o2) (between j1 j2)
    → StoppedBlocks a (range_with_len first (end - first)) fault (between o0 o2) (between j0 j2)
outputs-stopped a first k end d fault o0 o1 o2 j0 j1 j2 h p q r w st =
    subst (λ (ks : List ℕ). StoppedBlocks a ks fault (between o0 o2) (between j0 j2)) (sym (from-split first k end p q))
    (stopped-more a (range_with_len first (k - first)) k (range_with_len (k + 1) (end - (k + 1))) d fault o0 o1 o2 j0 j1 j2 h
    (range-below (k + 1) (end - (k + 1)) a.parts.outputs (omega (arith, q, r))) (range-without first (k - first) k (omega (arith, p))) w st)
