-- How the report, the journal and the summary of `trial` come to all of it, or to fronts.
use Rattle.std.proofs.Common.{◌≡◌, ◌∙◌, ℕ, ◌≤◌, List, [], ◌∷◌, ◌++◌, refl, sym, ap, subst, arith, codes, decimal, inl, inr, Some, None, Bool}
use Rattle.std.specs.Prelude.{IfSome, map}
use Rattle.std.specs.declared.option.Option.{Option}
use Rattle.pla_reader.specs.Parts.{Parts}
use Rattle.report_text.specs.declared.answer.Version.TheVariants.{Two}
use Rattle.wire_io.specs.Causes.{Device, Rose}
use Rattle.wire_io.specs.Laws.{Gains-none, Gains-append}
use Rattle.wire_io.specs.Told.{Gains, GainsFront}
use Rattle.journal_text.specs.Kept.{SpellsParts}
use Rattle.four_lattice.specs.Devices.{Change, GainsTold}
use Rattle.four_lattice.specs.Minima.{Asked, asked, is_open, BothLater, HasSinkCause, AreTallied, WroteAnswers, StoppedAnswers, WroteTried, StoppedTried}
use Rattle.four_lattice.specs.Synth.{Least, IsFront, AreAnswers, IsShowing}
use Rattle.four_lattice.specs.Trial.{tally_of, answers_in, summary_text, HasSteps, SumsUp, AreTried, BeginLine}
use Rattle.four_lattice.specs.declared.lattices.WorkFault.{WorkFault}
use Rattle.four_lattice.specs.declared.lattices.WorkFault.TheVariants.{Write}
use Rattle.four_lattice.specs.declared.tally.Tally.{Tally}
use Rattle.four_lattice.proofs.SynthLaws.{between, cause-later}
use Rattle.four_lattice.proofs.SynthLists.{journal_text-is}

-- ---- the steps that a writer counts

-- the parts that a writer spells, with the last line behind them, are a journal with so many steps
pub has-steps : (old new : Option (List ℕ)) (steps : ℕ) → IfSome old (λ bytes. SpellsParts bytes steps) → Gains old new (codes "end\n") → IfSome new (HasSteps steps)
has-steps old None steps h g = tt
has-steps None (Some new) steps h g = absurd g
has-steps (Some old) (Some new) steps h g = record {
  journal = record { version = Two; rails = h.rails; parts = h.parts };
  bounds = record { rails = h.rails_are; parts = h.are };
  text = g ∙ ap (λ bytes. bytes ++ codes "end\n") h.text ∙ sym (journal_text-is Two h.rails h.parts);
  count = h.count;
}

-- ---- what the journal got, told by its sink alone

-- the answers and the steps of a journal that had got nothing
record Shown (number budget : ℕ) (parts : Parts) (tally : Tally) (steps : ℕ) (bytes : List ℕ) (old new : Option (List ℕ)) : Type 0 where
  pub told : Option (List ℕ)
  pub gained : GainsTold old new told
  pub answers : AreAnswers Least 1048575 budget None parts bytes told (is_open tally)
  pub summary : SumsUp number answers.report told (summary_text number tally steps)

abbrev untold : (budget : ℕ) (parts : Parts) (bytes : List ℕ) (told : Option (List ℕ)) (undecided : Bool) → AreAnswers Least 1048575 budget None parts bytes told undecided → AreAnswers Least 1048575 budget None parts bytes None undecided
untold budget parts bytes told undecided h = record { report = h.report; is = h.is; text = h.text; held = h.held; shown = tt; undecided_is = h.undecided_is }

shown-by : (number budget : ℕ) (parts : Parts) (tally : Tally) (steps : ℕ) (bytes : List ℕ) (old new told : Option (List ℕ)) → IfSome old (λ b. b ≡ []) → GainsTold old new told
    → AreTallied (asked 1048575 budget parts) None tally bytes told → IfSome new (HasSteps steps) → Shown number budget parts tally steps bytes old new
shown-by number budget parts tally steps bytes old None told empty gained h counted = record {
  told = None;
  gained = refl;
  answers = untold budget parts bytes told (is_open tally) h.answers;
  summary = record { steps = steps; counted = tt; text = ap (λ t. summary_text number t steps) h.tallied };
}
shown-by number budget parts tally steps bytes old (Some new) None empty gained h counted = absurd (cc gained)
shown-by number budget parts tally steps bytes None (Some new) (Some told) empty gained h counted = absurd gained
shown-by number budget parts tally steps bytes (Some old) (Some new) (Some told) empty gained h counted = record {
  told = Some told;
  gained = gained;
  answers = h.answers;
  summary = record {
    steps = steps;
    counted = subst (HasSteps steps) (gained ∙ ap (λ before. before ++ told) empty) counted;
    text = ap (λ t. summary_text number t steps) h.tallied;
  };
}

-- ---- the line

pub summary-pieces : (number : ℕ) (t : Tally) (steps : ℕ) (a b c d e : List ℕ) → a ≡ decimal number → b ≡ decimal t.minimum → c ≡ decimal t.undecided → d ≡ decimal t.area → e ≡ decimal steps
    → codes "trial " ++ (a ++ (codes " outputs 16 minimum " ++ (b ++ (codes " undecided " ++ (c ++ (codes " area " ++ (d ++ (codes " steps " ++ (e ++ codes "\n"))))))))) ≡ summary_text number t steps
summary-pieces number t steps a b c d e is-a is-b is-c is-d is-e = rw (is-a, is-b, is-c, is-d, is-e) refl

-- ---- the whole

later-out : (o0 o1 o2 j0 j1 : Device) → BothLater (between o0 o1) (between j0 j1) → o1.faults ≤ o2.faults → BothLater (between o0 o2) (between j0 j1)
later-out o0 o1 o2 j0 j1 l h = let p = l.of_out in record { of_out = omega (arith, p, h); of_journal = l.of_journal }

pub tried-whole : (number budget : ℕ) (parts : Parts) (tally : Tally) (steps : ℕ) (o0 o1 o2 j0 j1 : Device) → IfSome j0.told (λ b. b ≡ []) → WroteAnswers (asked 1048575 budget parts) None tally (between o0 o1) (between j0 j1)
    → IfSome j1.told (HasSteps steps) → Gains o1.told o2.told (summary_text number tally steps) → o1.faults ≤ o2.faults → WroteTried number budget parts tally (between o0 o2) (between j0 j1)
tried-whole number budget parts tally steps o0 o1 o2 j0 j1 empty w counted line later =
    let s = shown-by number budget parts tally steps w.bytes j0.told j1.told w.told empty w.journal_gained w.holds counted in
    record {
      bytes = w.bytes ++ summary_text number tally steps;
      told = s.told;
      holds = record { report = w.bytes; line = summary_text number tally steps; answers = s.answers; summary = s.summary; text = refl };
      out_gained = Gains-append o0.told o1.told o2.told w.bytes (summary_text number tally steps) w.out_gained line;
      journal_gained = s.gained;
      later = later-out o0 o1 o2 j0 j1 w.later later;
    }

-- ---- what stands where writing stopped

pub tried-early : (number budget : ℕ) (parts : Parts) (fault : WorkFault) (out journal : Change) → StoppedAnswers (asked 1048575 budget parts) None fault out journal → StoppedTried number budget parts fault out journal
tried-early number budget parts fault out journal st = record {
  bytes = st.bytes;
  told = st.told;
  stands = inl st.stands;
  out_gained = st.out_gained;
  journal_gained = st.journal_gained;
  later = st.later;
  cause = st.cause;
}

pub tried-line : (number budget : ℕ) (parts : Parts) (tally : Tally) (steps : ℕ) (o0 o1 o2 j0 j1 : Device) → IfSome j0.told (λ b. b ≡ []) → WroteAnswers (asked 1048575 budget parts) None tally (between o0 o1) (between j0 j1)
    → IfSome j1.told (HasSteps steps) → GainsFront o1.told o2.told (summary_text number tally steps) → o1.faults ≤ o2.faults → Rose o1.faults o2.faults
    → StoppedTried number budget parts Write (between o0 o2) (between j0 j1)
tried-line number budget parts tally steps o0 o1 o2 j0 j1 empty w counted line later rose =
    let s = shown-by number budget parts tally steps w.bytes j0.told j1.told w.told empty w.journal_gained w.holds counted in
    record {
      bytes = w.bytes ++ line.front;
      told = s.told;
      stands = inr (record {
        report = w.bytes;
        front = line.front;
        line = summary_text number tally steps;
        undecided = is_open tally;
        answers = s.answers;
        summary = s.summary;
        is_front = (line.rest, line.whole);
        text = refl;
      });
      out_gained = Gains-append o0.told o1.told o2.told w.bytes line.front w.out_gained line.gained;
      journal_gained = s.gained;
      later = later-out o0 o1 o2 j0 j1 w.later later;
      cause = cause-later Write o0 o1 o2 j0 j1 j1 w.later (inl rose);
    }
