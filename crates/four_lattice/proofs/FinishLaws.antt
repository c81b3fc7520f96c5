-- How the ways in which a command stops make a run that finishes so.
use Rattle.std.proofs.Common.{◌≡◌, ℕ, inl, inr, List, [], refl, sym, ap, ◌∙◌, subst, true, false, arith, Some, None}
use Rattle.std.specs.Prelude.{IfSome}
use Rattle.std.specs.declared.option.Option.{Option}
use Rattle.wire_io.specs.Causes.{Device}
use Rattle.wire_io.specs.Laws.{Gains-none}
use Rattle.wire_io.specs.Told.{Gains, GainsFront, LosesUpTo, IsSpent}
use Rattle.four_lattice.specs.Devices.{Change, Failed, IsReadFor, EndsText, EndsTest}
use Rattle.four_lattice.specs.Judge.{Task, Judgement, Refused as Refuses, Accepted}
use Rattle.four_lattice.specs.Lattices.{IsWriteCause, ending_of_fault}
use Rattle.four_lattice.specs.Run.{Devices, quiet, IsBlank, AreSpent, AreLater, AreRead, Began, Finishes}
use Rattle.four_lattice.specs.Uses.{Uses, most_side_bytes}
use Rattle.std.proofs.lemmas.Bool.{true≢false}
use Rattle.four_lattice.specs.Work.{Written, Says, SaysFront, Does, Begins}
use Rattle.four_lattice.specs.declared.lattices.WorkFault.{WorkFault}
use Rattle.four_lattice.specs.declared.lattices.WorkFault.TheVariants as work
use Rattle.four_lattice.specs.declared.ending.InputRefusal.{InputRefusal}
use Rattle.four_lattice.specs.declared.ending.SideRefusal.{SideRefusal}
use Rattle.four_lattice.specs.declared.ending.SideRefusal.TheVariants as sides
use Rattle.four_lattice.specs.declared.ending.Unconfirmed.{Unconfirmed}
use Rattle.four_lattice.specs.declared.ending.Refusal.{Refusal}
use Rattle.four_lattice.specs.declared.ending.Refusal.TheVariants as refusal
use Rattle.four_lattice.specs.declared.ending.Ending.{Ending}
use Rattle.four_lattice.specs.declared.ending.Ending.TheVariants.{Done, Refused, ReadFault, WriteFault, NoMemory}

-- nothing was taken
pub LosesUpTo-none : (told : Option (List ℕ)) (n : ℕ) → LosesUpTo told told n
LosesUpTo-none None n = record { front = []; few = omega arith; lost = tt }
LosesUpTo-none (Some bytes) n = record { front = []; few = omega arith; lost = refl }

LosesUpTo-same : (c : Change) (n : ℕ) → c.new ≡ c.old → LosesUpTo c.old.told c.new.told n
LosesUpTo-same c n e = subst (λ d. LosesUpTo c.old.told d.told n) (sym e) (LosesUpTo-none c.old.told n)

-- a text gives no value, in one of three ways
pub text_stops : {R : Type 0} (at : R → Refusal) (IsLong : R → Type 0) (IsRefusedText : List ℕ → R → Type 0) (most : ℕ) (c : Change) (P : Ending → Type 0)
    → ((r : R) → IfSome c.old.told (λ b. IsRefusedText b r) → IsReadFor (IsLong r) most c → P (Refused (at r)))
    → (Failed c → LosesUpTo c.old.told c.new.told most → P ReadFault) → (LosesUpTo c.old.told c.new.told most → P NoMemory)
    → (ending : Ending) → EndsText at IsLong IsRefusedText most ending c → P ending
text_stops at IsLong IsRefusedText most c P refused fault memory ending h = elim h [
  | inl a ↦ subst P (sym a.1) (refused a.0 a.2 a.3)
  | inr b ↦ elim b [ inl f ↦ subst P (sym f.0) (fault f.1 f.2) | inr m ↦ subst P (sym m.0) (memory m.1) ]
]

module _ (J : Judgement → Type 0) (u : Uses) (most : ℕ) (d : Devices) (blank : IsBlank d) (later : AreLater d) where
  -- the standard input gives no value, and the side file is not called
  pub input_stops : {R : Type 0} (at : R → InputRefusal) (IsLong : R → Type 0) (IsRefusedText : List ℕ → R → Type 0) → u.pla ≡ true → d.side.new ≡ d.side.old
      → ((r : R) → IfSome d.pla.old.told (λ b. IsRefusedText b r) → J (Refuses (refusal.Input (at r))))
      → ((r : R) → IsReadFor (IsLong r) most d.pla → AreRead u most (Refused (refusal.Input (at r))) d)
      → (ending : Ending) → EndsText (λ r. refusal.Input (at r)) IsLong IsRefusedText most ending d.pla → Finishes J u most ending d
  input_stops at IsLong IsRefusedText named side judged read ending h =
      text_stops (λ r. refusal.Input (at r)) IsLong IsRefusedText most d.pla (λ e. Finishes J u most e d)
      (λ r told taken. record { ends = (judged r told, blank); read = read r taken; later = later })
      (λ failed taken. record { ends = (inl (named, failed), blank); read = (taken, LosesUpTo-same d.side most_side_bytes side); later = later })
      (λ taken. record { ends = inl blank; read = (taken, LosesUpTo-same d.side most_side_bytes side); later = later })
      ending h

  -- the side file gives no value, after a text that was read to its end
  pub side_stops : (IsRefusedText : List ℕ → SideRefusal → Type 0) → u.side ≡ true → IsSpent d.pla.new.told → LosesUpTo d.pla.old.told d.pla.new.told most
      → ((r : SideRefusal) → IfSome d.side.old.told (λ b. IsRefusedText b r) → J (Refuses (refusal.Side r)))
      → (ending : Ending) → EndsText refusal.Side (λ r. r ≡ sides.TooLong) IsRefusedText most_side_bytes ending d.side → Finishes J u most ending d
  side_stops IsRefusedText named spent taken_first judged ending h =
      text_stops refusal.Side (λ r. r ≡ sides.TooLong) IsRefusedText most_side_bytes d.side (λ e. Finishes J u most e d)
      (λ r told taken. record { ends = (judged r told, blank); read = (spent, taken); later = later })
      (λ failed taken. record { ends = (inr (named, failed), blank); read = (taken_first, taken); later = later })
      (λ taken. record { ends = inl blank; read = (taken_first, taken); later = later })
      ending h

  -- the chosen output is not there
  pub refused_output : (r : InputRefusal) → AreRead u most (Refused (refusal.Input r)) d → J (Refuses (refusal.Input r)) → Finishes J u most (Refused (refusal.Input r)) d
  refused_output r read judged = record { ends = (judged, blank); read = read; later = later }

  -- a test stops the run, after texts that were read to their ends
  pub test_stops : (Refusing : Refusal → Type 0) → AreSpent u d → LosesUpTo d.pla.old.told d.pla.new.told most → LosesUpTo d.side.old.told d.side.new.told most_side_bytes
      → ((r : Refusal) → Refusing r → (x : Unconfirmed) × (r ≡ refusal.Unconfirmed x)) → ((r : Refusal) → Refusing r → J (Refuses r))
      → (ending : Ending) → EndsTest Refusing ending → Finishes J u most ending d
  test_stops Refusing spent first second level judged ending h = elim h [
    | inl a ↦
        let x = level a.0 a.1 in
        subst (λ e. Finishes J u most e d) (sym (a.2 ∙ ap Refused x.1))
        (record { ends = (subst (λ r. J (Refuses r)) x.1 (judged a.0 a.1), blank); read = spent; later = later })
    | inr m ↦ subst (λ e. Finishes J u most e d) (sym m) (record { ends = inl blank; read = (first, second); later = later })
  ]

  -- memory was wanting before anything was written
  pub wants_memory : LosesUpTo d.pla.old.told d.pla.new.told most → LosesUpTo d.side.old.told d.side.new.told most_side_bytes → Finishes J u most NoMemory d
  wants_memory first second = record { ends = inl blank; read = (first, second); later = later }

-- A task that writes one text, and nothing to the journal.
module _ (J : Judgement → Type 0) (u : Uses) (most : ℕ) (pla side out : Change) (journal : Device) (task : Task) (text : List ℕ) (accepted : J (Accepted task))
    (spent : AreSpent u (quiet pla side out journal)) (later : AreLater (quiet pla side out journal)) where
  pub quiet_done : ((w : Written) → Says text w → Does task w) → Gains out.old.told out.new.told text → Finishes J u most Done (quiet pla side out journal)
  quiet_done does gained = record {
    ends = record {
      task = task;
      accepted = accepted;
      written = record { out = text; journal = Some []; undecided = false };
      does = does (record { out = text; journal = Some []; undecided = false }) (record { out = refl; journal = refl; undecided = refl });
      decided = refl;
      out = gained;
      journal = Gains-none journal.told;
    };
    read = spent;
    later = later;
  }

  began : ((front : List ℕ) → SaysFront text front (Some []) → Begins task front (Some [])) → GainsFront out.old.told out.new.told text → Began J (quiet pla side out journal)
  began begins gained = record {
    task = task;
    accepted = accepted;
    out = gained.front;
    journal = Some [];
    begins = begins gained.front (record { front = (gained.rest, gained.whole); none = refl });
    out_gained = gained.gained;
    journal_gained = Gains-none journal.told;
  }

  pub quiet_fault : ((front : List ℕ) → SaysFront text front (Some []) → Begins task front (Some [])) → Failed out → GainsFront out.old.told out.new.told text
      → Finishes J u most WriteFault (quiet pla side out journal)
  quiet_fault begins failed gained = record { ends = (inl failed, began begins gained); read = spent; later = later }

  pub work_stops : ((front : List ℕ) → SaysFront text front (Some []) → Begins task front (Some [])) → LosesUpTo pla.old.told pla.new.told most → LosesUpTo side.old.told side.new.told most_side_bytes
      → GainsFront out.old.told out.new.told text → (fault : WorkFault) → IsWriteCause out.old.faults out.new.faults fault
      → Finishes J u most (ending_of_fault fault) (quiet pla side out journal)
  work_stops begins first second gained work.Write cause = quiet_fault begins cause gained
  work_stops begins first second gained work.NoMemory cause = record { ends = inr (began begins gained); read = (first, second); later = later }

-- nothing is left of the sources that are named
pub spent_alone : {P Q : Type 0} → P → (true ≡ true → P) × (false ≡ true → Q)
spent_alone h = ((λ e. h), (λ e. absurd (true≢false (sym e))))

pub spent_both : {P Q : Type 0} → P → Q → (true ≡ true → P) × (true ≡ true → Q)
spent_both h k = ((λ e. h), (λ e. k))
