-- How far the lines of a text have been taken.
use Rattle.std.proofs.Common.{◌≡◌, ℕ, ◌+◌, ◌≤◌, ◌<◌, Bool, true, false, not, cond, ◌&&◌, List, [], ◌∷◌, ◌++◌, length, map, get_or, Option, Some, None, refl, sym, ap, ◌∙◌, arith, subst, append_assoc, length-append, true≢false}
use borrow.Author.Count.{below_more}
use Rattle.std.specs.List.{sum_by}
use Rattle.std.proofs.lemmas.List.{map-append, length-map, get_or_at, take_at}
use Rattle.std.proofs.lemmas.List.Sums.{sum_by-append}
use Rattle.pla_reader.specs.declared.fault.LineFault.{LineFault}
use Rattle.pla_reader.specs.declared.fault.LineFault.TheVariants.{Missing}
use Rattle.pla_reader.specs.declared.pla.PlaRefusal.{PlaRefusal}
use Rattle.pla_reader.specs.Lines.{Line, lines_of, line_length}
use Rattle.pla_reader.specs.Says.{Said, said_by}
use Rattle.pla_reader.specs.Says.Said.{Spoiled, Silent, Unknown, Foreign, GivesInputs, GivesOutputs, GivesKind, NamesInputs, NamesOutputs, GivesRow, Ends}
use Rattle.std.proofs.Common.{◌-◌, ◌⊎◌, inl, inr}
use Rattle.std.specs.Prelude.{is_some}
use Rattle.pla_reader.specs.Given.{are_given, stands, first_said, either_of, inputs_said, outputs_said}
use Rattle.pla_reader.proofs.StateLaws.{first_said-push}
use Rattle.pla_reader.specs.Faults.{fault_after, first_of}
use Rattle.pla_reader.specs.State.{State, IsState, Keeps}
use Rattle.pla_reader.specs.Reading.{is_end, through_end, refusal_at, said_in, lines_read, fault_at, AreSound, IsLineRefused}
use Rattle.pla_reader.specs.Taking.{HasTaken}

-- The lines before this rest have been taken; the next one has this number.
pub record Reached (bytes rest : List ℕ) (number : ℕ) (s : State) : Type 0 where
  pub before : List Line
  pub all : lines_of bytes ≡ before ++ lines_of rest
  pub read : lines_read bytes ≡ before ++ through_end (lines_of rest)
  pub count : number ≡ length before + 1
  pub place : sum_by line_length before + length rest ≡ length bytes
  pub room : length before + length rest ≤ length bytes
  pub keeps : Keeps (map said_by before) s
  pub sound : AreSound (said_in bytes) (length before)
  pub state : IsState s

pub Reached-none : (bytes : List ℕ) (s : State) → IsState s → Keeps [] s → Reached bytes bytes 1 s
Reached-none bytes s state keeps = record {
  before = [];
  all = refl;
  read = refl;
  count = refl;
  place = omega arith;
  room = omega arith;
  keeps = keeps;
  sound = λ k h. absurd (omega arith);
  state = state;
}

-- what the lines say, the next one among them
said_parts : (bytes : List ℕ) (before : List Line) (line : Line) (later : List Line) → lines_read bytes ≡ before ++ line ∷ later → said_in bytes ≡ map said_by before ++ said_by line ∷ map said_by later
said_parts bytes before line later e = ap (map said_by) e ∙ map-append said_by before (line ∷ later)

-- the next line is judged by the lines before it
fault_here : (bytes : List ℕ) (before : List Line) (line : Line) (later : List Line) → lines_read bytes ≡ before ++ line ∷ later → fault_at (said_in bytes) (length before) ≡ fault_after (map said_by before) (said_by line)
fault_here bytes before line later e =
    let parts = said_parts bytes before line later e in
    let many : length (map said_by before) ≡ length before = length-map before said_by in
    ap (λ ss. fault_at ss (length before)) parts
    ∙ ap (λ ss. fault_after ss (get_or (map said_by before ++ said_by line ∷ map said_by later) (length before) Silent)) (take_at (map said_by before) (said_by line ∷ map said_by later) (length before) many)
    ∙ ap (fault_after (map said_by before)) (get_or_at (map said_by before) (said_by line) (map said_by later) Silent (length before) many)

within_said : (bytes : List ℕ) (before : List Line) (line : Line) (later : List Line) → lines_read bytes ≡ before ++ line ∷ later → length before < length (said_in bytes)
within_said bytes before line later e =
    let many = length-map (lines_read bytes) said_by in let parts = ap length e ∙ length-append before (line ∷ later) in omega (arith, many, parts)

AreSound-more : (bytes : List ℕ) (before : List Line) → AreSound (said_in bytes) (length before) → fault_at (said_in bytes) (length before) ≡ None → AreSound (said_in bytes) (length before + 1)
AreSound-more bytes before sound here = below_more _ _ sound here

-- the lines that are read, the next one among them
read_next : (bytes rest : List ℕ) (before : List Line) (line : Line) (later : List Line) → lines_of rest ≡ line ∷ later → lines_read bytes ≡ before ++ through_end (lines_of rest)
    → lines_read bytes ≡ before ++ line ∷ cond (is_end (said_by line)) [] (through_end later)
read_next bytes rest before line later e read = read ∙ ap (λ ls. before ++ through_end ls) e

-- the next line has a fault
pub Reached-fault : (bytes rest : List ℕ) (number : ℕ) (s : State) (line : Line) (later : List Line) (fault : LineFault) (refusal : PlaRefusal) → (r : Reached bytes rest number s) → lines_of rest ≡ line ∷ later
    → fault_after (map said_by r.before) (said_by line) ≡ Some fault → refusal ≡ refusal_at fault number → IsLineRefused (said_in bytes) refusal
Reached-fault bytes rest number s line later fault refusal r e is answer =
    let next = read_next bytes rest r.before line later e r.read in
    record {
      line = length r.before;
      fault = fault;
      within = within_said bytes r.before line _ next;
      before = r.sound;
      here = fault_here bytes r.before line _ next ∙ is;
      answer = answer ∙ ap (refusal_at fault) r.count;
    }

keeps_more : (before : List Line) (line : Line) (s : State) → Keeps (map said_by before ++ said_by line ∷ []) s → Keeps (map said_by (before ++ line ∷ [])) s
keeps_more before line s k = subst (λ ss. Keeps ss s) (sym (map-append said_by before (line ∷ []))) k

place_more : (before : List Line) (line : Line) → sum_by line_length (before ++ line ∷ []) ≡ sum_by line_length before + line_length line
place_more before line = let whole = sum_by-append line_length before (line ∷ []) in omega (arith, whole)

-- one more line, and others follow
pub Reached-more : (bytes rest after : List ℕ) (number : ℕ) (s new : State) (line : Line) → (r : Reached bytes rest number s) → lines_of rest ≡ line ∷ lines_of after → line_length line + length after ≡ length rest → length after < length rest
    → is_end (said_by line) ≡ false → IsState new → (fault_after (map said_by r.before) (said_by line) ≡ None) × Keeps (map said_by r.before ++ said_by line ∷ []) new → Reached bytes after (number + 1) new
Reached-more bytes rest after number s new line r e many shorter goes state step =
    let next = read_next bytes rest r.before line (lines_of after) e r.read in
    let place = r.place in
    let room = r.room in
    let count = r.count in
    let more = length-append r.before (line ∷ []) in
    record {
      before = r.before ++ line ∷ [];
      all = r.all ∙ ap (λ ls. r.before ++ ls) e ∙ sym (append_assoc r.before (line ∷ []) (lines_of after));
      read = next ∙ ap (λ b. r.before ++ line ∷ cond b [] (through_end (lines_of after))) goes ∙ sym (append_assoc r.before (line ∷ []) (through_end (lines_of after)));
      count = omega (arith, more, count);
      place = omega (arith, place_more r.before line, many, place);
      room = omega (arith, more, room);
      keeps = keeps_more r.before line new step.1;
      sound = subst (AreSound (said_in bytes)) (sym more) (AreSound-more bytes r.before r.sound (fault_here bytes r.before line _ next ∙ step.0));
      state = state;
    }

ends_given : (before : List Said) (s : Said) → is_end s ≡ true → fault_after before s ≡ None → are_given before ≡ true
ends_given before Ends is clear = go (are_given before) clear where
  go : (b : Bool) → first_of ((not b, Missing) ∷ []) ≡ None → b ≡ true
  go true e = refl
  go false e = cc
ends_given before Spoiled is clear = absurd (true≢false (sym is))
ends_given before Silent is clear = absurd (true≢false (sym is))
ends_given before Unknown is clear = absurd (true≢false (sym is))
ends_given before Foreign is clear = absurd (true≢false (sym is))
ends_given before (GivesInputs n) is clear = absurd (true≢false (sym is))
ends_given before (GivesOutputs n) is clear = absurd (true≢false (sym is))
ends_given before (GivesKind n) is clear = absurd (true≢false (sym is))
ends_given before (NamesInputs n) is clear = absurd (true≢false (sym is))
ends_given before (NamesOutputs n) is clear = absurd (true≢false (sym is))
ends_given before (GivesRow n) is clear = absurd (true≢false (sym is))

stands_more : {X : Type 0} (says : Said → Option X) (ss : List Said) (s : Said) → stands says ss ≡ true → stands says (ss ++ s ∷ []) ≡ true
stands_more {X} says ss s h = ap is_some (first_said-push says ss s) ∙ go (first_said says ss) h where
  go : (o : Option X) → is_some o ≡ true → is_some (either_of o (says s)) ≡ true
  go None e = absurd (true≢false (sym e))
  go (Some x) e = refl

both_true : (a b : Bool) → (a && b) ≡ true → (a ≡ true) × (b ≡ true)
both_true true b h = (refl, h)
both_true false b h = absurd (true≢false (sym h))

given_more : (ss : List Said) (s : Said) → are_given ss ≡ true → are_given (ss ++ s ∷ []) ≡ true
given_more ss s h =
    let two = both_true (stands inputs_said ss) (stands outputs_said ss) h in
    ap (λ b. b && stands outputs_said (ss ++ s ∷ [])) (stands_more inputs_said ss s two.0) ∙ stands_more outputs_said ss s two.1

none_later : (b : Bool) (later : List Line) → (b ≡ true) ⊎ (later ≡ []) → cond b [] (through_end later) ≡ []
none_later true later h = refl
none_later false later (inl e) = absurd (true≢false (sym e))
none_later false later (inr e) = ap through_end e

-- the last line
pub Reached-last : (bytes rest after : List ℕ) (number place : ℕ) (s new : State) (line : Line) (later : List Line) → (r : Reached bytes rest number s) → lines_of rest ≡ line ∷ later → line_length line + length after ≡ length rest
    → place ≡ length bytes - length after → (is_end (said_by line) ≡ true) ⊎ (later ≡ []) → IsState new → (fault_after (map said_by r.before) (said_by line) ≡ None) × Keeps (map said_by r.before ++ said_by line ∷ []) new
    → HasTaken bytes new number place
Reached-last bytes rest after number place s new line later r e many is last state step =
    let next = read_next bytes rest r.before line later e r.read in
    let whole : lines_read bytes ≡ r.before ++ line ∷ [] = next ∙ ap (λ ls. r.before ++ line ∷ ls) (none_later (is_end (said_by line)) later last) in
    let said : said_in bytes ≡ map said_by r.before ++ said_by line ∷ [] = said_parts bytes r.before line [] whole in
    let count = r.count in
    let here = r.place in
    let long : length (said_in bytes) ≡ length r.before + 1 = length-map (lines_read bytes) said_by ∙ ap length whole ∙ length-append r.before (line ∷ []) in
    record {
      state = state;
      keeps = subst (λ ss. Keeps ss new) (sym said) step.1;
      sound = subst (AreSound (said_in bytes)) (sym long) (AreSound-more bytes r.before r.sound (fault_here bytes r.before line [] whole ∙ step.0));
      place_is = let sum = ap (sum_by line_length) whole ∙ place_more r.before line in omega (arith, sum, many, here, is);
      last = λ missing. elim last [
        | inl ends ↦ absurd (true≢false (sym (ap are_given said ∙ given_more (map said_by r.before) (said_by line) (ends_given (map said_by r.before) (said_by line) ends step.0)) ∙ missing))
        | inr none ↦ let all = ap length (r.all ∙ ap (λ ls. r.before ++ ls) (e ∙ ap (λ ls. line ∷ ls) none)) ∙ length-append r.before (line ∷ []) in omega (arith, all, count)
      ];
    }
