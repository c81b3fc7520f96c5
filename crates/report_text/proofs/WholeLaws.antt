-- What is said of lines of such wholes is what is said of lines as they are expected.
use Rattle.std.proofs.Common.{◌≡◌, ◌≢◌, ℕ, suc, zero, ◌+◌, ◌≤◌, ◌<◌, ◌⊎◌, inl, inr, List, [], ◌∷◌, ◌++◌, length, map, refl, sym, ap, ◌∙◌, subst, arith, codes}
use Rattle.std.specs.Prelude.{All, replicate}
use Rattle.std.specs.Fmt.{decimal}
use Rattle.std.specs.List.{join_with_byte}
use Rattle.std.proofs.lemmas.List.{append-nil, length-replicate}
use Rattle.std.proofs.lemmas.List.Elements.{All-nil, All-cons, All-head, All-replicate}
use Rattle.lattice_grid.specs.declared.array.Defect.TheVariants.{Sound}
use Rattle.lattice_grid.specs.declared.control.Control.TheVariants.{Zero}
use Rattle.lattice_grid.specs.Control.{NamesBelow}
use Rattle.lattice_grid.specs.Defects.{Defects}
use Rattle.pla_reader.specs.Name.{IsName, IsNameByte}
use Rattle.report_text.specs.Bounds.{AreNames, IsProof}
use Rattle.report_text.specs.Cells.{control_text}
use Rattle.report_text.specs.Expected.{Expected, IsRow, Meets, Leads, Misses, RunsOut, Opens, kind_of, after_heading}
use Rattle.report_text.specs.Expected.Expected.{Title, Inputs, Rails, Heading, HeadingOrEnd, Cells, Proofs}
use Rattle.report_text.specs.Form.{Has}
use Rattle.report_text.specs.Pieces.{Without, words, feeds}
use Rattle.report_text.specs.Reading.{Comes, IsFaulty, IsCutShort}
use Rattle.report_text.specs.Report.{HeadingParts, Kind, Line, line, text_of, words_text, title_words, heading_words}
use Rattle.report_text.specs.declared.answer.Proof.{Proof}
use Rattle.report_text.specs.declared.answer.Version.{Version}
use Rattle.report_text.specs.declared.answer.Version.TheVariants as versions
use Rattle.report_text.specs.declared.form.Form.{Form}
use Rattle.report_text.specs.declared.form.Form.TheVariants.{MapUndecided}
use Rattle.report_text.proofs.FeedLaws.{feeds-append, feeds-none, feeds-line}
use Rattle.report_text.proofs.JoinLaws.{join-pieces}
use Rattle.report_text.proofs.LeadLaws.{leads_append, leads_split, leads_same, clean_line, clean_words, line_behind, wide_next}
use Rattle.report_text.proofs.MeetsLaws.{IsWide, meets_clean}
use Rattle.report_text.proofs.StopLaws.{goes_on, leads_wide}

-- ---- all that is expected can come

-- an array of one switch
abbrev one_switch : Defects
one_switch = record { size = record { rows = 1; cols = 1 }; cells = Sound ∷ [] }

abbrev shortest : HeadingParts
shortest = record { output = 0; name = codes "x"; form = MapUndecided one_switch 0 }

name_x : IsName (codes "x")
name_x = record { some = omega arith; each = All-cons IsNameByte 120 [] (omega arith, omega arith) (All-nil IsNameByte) }

none_after : (v : Version) → [] ≡ after_heading v (MapUndecided one_switch 0)
none_after versions.One = refl
none_after versions.Two = refl

opens_shortest : (v : Version) → Opens v (heading_words shortest) []
opens_shortest v = record {
  heading = shortest;
  is_heading = record {
    output = omega arith;
    name = name_x;
    form = (record { some_rows = omega arith; some_cols = omega arith; few_rows = omega arith; few_cols = omega arith; whole = refl }, omega arith);
    has = has v;
  };
  words_are = refl;
  more_is = none_after v;
} where
  has : (v : Version) → Has v (MapUndecided one_switch 0)
  has versions.One = tt
  has versions.Two = tt

-- a line, and what leads from there to the end
pub record CanCome (e : Expected) (es : List Expected) : Type 0 where
  pub next : Line
  pub more : List Line
  pub leads : Leads (e ∷ es) (next ∷ more) []

-- a line of its own that is followed by nothing else
alone : (e : Expected) (ws : List (List ℕ)) (es : List Expected) (lines : List Line) → Meets e ws [] → Leads es lines [] → CanCome e es
alone e ws es lines meets leads = record { next = line (kind_of e) ws; more = lines; leads = ([], refl, meets, leads) }

one_name : AreNames (codes "x" ∷ [])
one_name = record { some = omega arith; few = omega arith; each = All-cons IsName (codes "x") [] name_x (All-nil IsName) }

whole_row : (cols : ℕ) → IsRow cols (replicate cols Zero)
whole_row cols = record { many = length-replicate cols Zero; inputs = All-replicate (NamesBelow 10) cols Zero tt }

come : (e : Expected) (es : List Expected) (lines : List Line) → Leads es lines [] → CanCome e es
come Title es lines x =
    let names = alone Inputs (codes "inputs" ∷ codes "x" ∷ []) (HeadingOrEnd versions.One ∷ es) (line (kind_of (HeadingOrEnd versions.One)) (codes "end" ∷ []) ∷ lines) (codes "x" ∷ [], one_name, refl, refl)
    ([], refl, inl (refl, refl), x) in
    record { next = line (kind_of Title) (title_words versions.One); more = names.next ∷ names.more; leads = (Inputs ∷ HeadingOrEnd versions.One ∷ [], refl, (versions.One, refl, refl), names.leads) }
come Inputs es lines x = alone Inputs (codes "inputs" ∷ codes "x" ∷ []) es lines (codes "x" ∷ [], one_name, refl, refl) x
come Rails es lines x = alone Rails (codes "rails" ∷ decimal 0 ∷ []) es lines (0, omega arith, refl, refl) x
come (Heading v) es lines x = alone (Heading v) (heading_words shortest) es lines (opens_shortest v) x
come (HeadingOrEnd v) es lines x = alone (HeadingOrEnd v) (codes "end" ∷ []) es lines (inl (refl, refl)) x
come (Cells cols) es lines x = alone (Cells cols) (map control_text (replicate cols Zero)) es lines (replicate cols Zero, whole_row cols, refl, refl) x
come Proofs es lines x = alone Proofs (codes "refuted" ∷ []) es lines ([], All-nil IsProof, refl, refl) x

pub can_end : (es : List Expected) → (lines : List Line) × Leads es lines []
can_end [] = ([], refl)
can_end (e ∷ es) =
    let rest = can_end es in
    let found = come e es rest.0 rest.1 in
    (found.next ∷ found.more, found.leads)

pub can_come : (e : Expected) (es : List Expected) → CanCome e es
can_come e es = let rest = can_end es in come e es rest.0 rest.1

-- ---- both ways

feeds-words : (ws : List (List ℕ)) (rest : List ℕ) → Without 10 (join_with_byte 32 ws) → feeds (join_with_byte 32 ws ++ 10 ∷ rest) ≡ suc (feeds rest)
feeds-words ws rest h = feeds-line (join_with_byte 32 ws) rest h

pub feeds-lines : (es fs : List Expected) (lines : List Line) (last : List ℕ) → All IsWide es → Leads es lines fs → feeds (text_of lines ++ last) ≡ length lines + feeds last
feeds-lines es fs [] last wide x = omega arith
feeds-lines [] fs (l ∷ lines) last wide x = absurd x
feeds-lines (e ∷ es) fs (l ∷ lines) last wide (m, k, x, p) =
    let clean = meets_clean e l.words m (All-head IsWide e es wide) x in
    let more = feeds-lines (m ++ es) fs lines last (wide_next e es l.words m wide x) p in
    let first = feeds-words l.words (text_of lines ++ last) (clean_line l.words clean) in
    let here = ap feeds (line_behind l lines last) in
    omega (arith, more, first, here)

-- lines of these wholes are as expected, and the other way round
pub record IsSaid (Whole : List Line → Type 0) (es : List Expected) : Type 0 where
  pub to : (lines : List Line) → Whole lines → Leads es lines []
  pub of : (lines : List Line) → Leads es lines [] → Whole lines
  pub wide : All IsWide es

-- a line comes only where it is expected
comes_met : (Whole : List Line → Type 0) (es later : List Expected) (e : Expected) (front : List Line) (l : Line) → IsSaid Whole es → Leads es front (e ∷ later) → Comes Whole front l
    → (l.kind ≡ kind_of e) × ((more : List Expected) × Meets e l.words more)
comes_met Whole es later e front l said x c = let on = goes_on es (e ∷ later) front c.more l [] x (said.to (front ++ l ∷ c.more) c.whole) in (on.1.1, (on.1.0, on.1.2))

comes_here : (Whole : List Line → Type 0) (es later : List Expected) (e : Expected) (front : List Line) (l : Line) (more : List Expected) → IsSaid Whole es → Leads es front (e ∷ later) → l.kind ≡ kind_of e → Meets e l.words more → Comes Whole front l
comes_here Whole es later e front l more said x k meets =
    let rest = can_end (more ++ later) in
    record { more = rest.0; whole = said.of (front ++ l ∷ rest.0) (leads_append es (e ∷ later) [] front (l ∷ rest.0) x (more, k, meets, rest.1)) }

pub faulty_of : (Whole : List Line → Type 0) (es : List Expected) (kind : Kind) (text : List ℕ) (first n : ℕ) → IsSaid Whole es → Misses es kind text first n → IsFaulty Whole kind text first n
faulty_of Whole es kind text first n said m =
    let some = can_come m.expected m.later in
    record {
      front = m.front;
      next = some.next;
      other = m.other;
      rest = m.rest;
      comes = record { more = some.more; whole = said.of (m.front ++ some.next ∷ some.more) (leads_append es (m.expected ∷ m.later) [] m.front (some.next ∷ some.more) m.leads some.leads) };
      kind_is = m.kind_is ∙ sym some.leads.1;
      text_is = m.text_is;
      one_line = m.one_line;
      in_none = λ l c e.
          let met = comes_met Whole es m.later m.expected m.front l said m.leads c in
          let clean = meets_clean m.expected l.words met.1.0 (All-head IsWide m.expected m.later (leads_wide es (m.expected ∷ m.later) m.front said.wide m.leads)) met.1.1 in
          m.unmet met.1.0 (subst (λ z. Meets m.expected z met.1.0) (sym (clean_words l.words clean) ∙ ap words (sym e)) met.1.1);
      number_is = m.number_is;
    }

-- what a line that comes is expected as
pub record IsExpected (es : List Expected) (front : List Line) (l : Line) : Type 0 where
  pub expected : Expected
  pub later : List Expected
  pub leads : Leads es front (expected ∷ later)
  pub kind_is : l.kind ≡ kind_of expected

expected_next : (es mid : List Expected) (front : List Line) (l : Line) (more : List Line) → Leads es front mid → Leads mid (l ∷ more) [] → IsExpected es front l
expected_next es [] front l more x y = absurd y
expected_next es (e ∷ later) front l more x y = record { expected = e; later = later; leads = x; kind_is = y.1 }

pub expected_of : (Whole : List Line → Type 0) (es : List Expected) (front : List Line) (l : Line) → IsSaid Whole es → Comes Whole front l → IsExpected es front l
expected_of Whole es front l said c =
    let parts = leads_split es [] front (l ∷ c.more) (said.to (front ++ l ∷ c.more) c.whole) in
    expected_next es parts.0 front l c.more parts.1 parts.2

pub misses_of : (Whole : List Line → Type 0) (es : List Expected) (kind : Kind) (text : List ℕ) (first n : ℕ) → IsSaid Whole es → IsFaulty Whole kind text first n → Misses es kind text first n
misses_of Whole es kind text first n said m =
    let is = expected_of Whole es m.front m.next said m.comes in
    record {
      front = m.front;
      expected = is.expected;
      later = is.later;
      other = m.other;
      rest = m.rest;
      leads = is.leads;
      kind_is = m.kind_is ∙ is.kind_is;
      text_is = m.text_is;
      one_line = m.one_line;
      unmet = λ more meets. m.in_none (line (kind_of is.expected) (words m.other)) (comes_here Whole es is.later is.expected m.front (line (kind_of is.expected) (words m.other)) more said is.leads refl meets) (sym (join-pieces 32 m.other));
      number_is = m.number_is;
    }

pub cut_short_of : (Whole : List Line → Type 0) (es : List Expected) (text : List ℕ) (first n : ℕ) → IsSaid Whole es → RunsOut es text first n → IsCutShort Whole text first n
cut_short_of Whole es text first n said m =
    let some = can_come m.expected m.later in
    let many = feeds-lines es (m.expected ∷ m.later) m.front m.last said.wide m.leads in
    let none = feeds-none m.last m.no_feed in
    let all = ap feeds m.text_is in
    let number = m.number_is in
    record {
      front = m.front;
      next = some.next;
      last = m.last;
      comes = record { more = some.more; whole = said.of (m.front ++ some.next ∷ some.more) (leads_append es (m.expected ∷ m.later) [] m.front (some.next ∷ some.more) m.leads some.leads) };
      text_is = m.text_is;
      no_feed = m.no_feed;
      number_is = omega (arith, many, none, all, number);
    }

pub runs_out_of : (Whole : List Line → Type 0) (es : List Expected) (text : List ℕ) (first n : ℕ) → IsSaid Whole es → IsCutShort Whole text first n → RunsOut es text first n
runs_out_of Whole es text first n said m =
    let is = expected_of Whole es m.front m.next said m.comes in
    let many = feeds-lines es (is.expected ∷ is.later) m.front m.last said.wide is.leads in
    let none = feeds-none m.last m.no_feed in
    let all = ap feeds m.text_is in
    let number = m.number_is in
    record {
      front = m.front;
      expected = is.expected;
      later = is.later;
      last = m.last;
      leads = is.leads;
      text_is = m.text_is;
      no_feed = m.no_feed;
      number_is = omega (arith, many, none, all, number);
    }
