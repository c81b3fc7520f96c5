-- Where lines stop being as expected: in one place, and in some.
use Rattle.std.proofs.Common.{◌≡◌, ◌≢◌, ℕ, suc, zero, ◌+◌, ◌≤◌, ◌<◌, ◌⊎◌, inl, inr, List, [], ◌∷◌, ◌++◌, length, refl, sym, ap, ◌∙◌, subst, arith, append_assoc, length-append}
use Rattle.std.specs.Prelude.{All}
use Rattle.std.specs.List.{flat_map, join_with_byte}
use Rattle.std.proofs.lemmas.List.{append-nil}
use Rattle.std.proofs.lemmas.List.Concat.{flat_map-append}
use Rattle.std.proofs.lemmas.List.Elements.{All-head}
use Rattle.report_text.specs.Expected.{Expected, Meets, Leads, Misses, RunsOut, GoesOn, Stops, kind_of}
use Rattle.report_text.specs.Pieces.{Without, Cuts, words, feeds}
use Rattle.report_text.specs.Report.{Kind, Line, line, text_of, words_text}
use Rattle.report_text.specs.Report.Kind.{OfTitle, OfInputs, OfRails, OfHeading, OfCells, OfProofs}
use Rattle.report_text.specs.declared.report.ReportRefusal.{ReportRefusal}
use Rattle.report_text.specs.declared.report.ReportRefusal.TheVariants.{Header, Inputs, Rails, Block, Grid, Proofs, Trailing, Truncated, NoMemory}
use Rattle.report_text.proofs.FeedLaws.{feeds-none, feeds-line, feed_or_none}
use Rattle.report_text.proofs.JoinLaws.{join-pieces}
use Rattle.report_text.proofs.LeadLaws.{leads_same, leads_append, leads_split, wide_next, compare, clean_line, clean_words, line_behind}
use Rattle.report_text.proofs.MeetsLaws.{IsWide, meets_clean, tested_meets}
use Rattle.report_text.proofs.PiecesLaws.{same_cut, no_cut}

-- the refusal of a line of this kind
abbrev pub refusal_for : Kind → ℕ → ReportRefusal
refusal_for OfTitle n = Header n
refusal_for OfInputs n = Inputs n
refusal_for OfRails n = Rails n
refusal_for OfHeading n = Block n
refusal_for OfCells n = Grid n
refusal_for OfProofs n = Proofs n

-- the refusal where these are expected and so many line feeds are left
abbrev pub pick : ℕ → List Expected → ℕ → ReportRefusal
pick feeds_left [] n = Trailing n
pick zero (e ∷ es) n = Truncated n
pick (suc k) (e ∷ es) n = refusal_for (kind_of e) n

-- Lines are as expected up to a place where they do not go on, and this is the refusal there.
pub record Halts (es : List Expected) (text : List ℕ) (first : ℕ) (refusal : ReportRefusal) : Type 0 where
  pub front : List Line
  pub after : List Expected
  pub rest : List ℕ
  pub leads : Leads es front after
  pub text_is : text ≡ text_of front ++ rest
  pub stuck : (l : Line) (more : List Expected) (t : List ℕ) → Leads after (l ∷ []) more → rest ≡ join_with_byte 32 l.words ++ 10 ∷ t → ⊥
  pub some : after ≡ [] → rest ≢ []
  pub is : refusal ≡ pick (feeds rest) after (first + length front)

pub halts_misses : (es : List Expected) (kind : Kind) (text : List ℕ) (first n : ℕ) → All IsWide es → ((es' : List Expected) (lines : List Line) → Leads es lines es' → All IsWide es') → Misses es kind text first n
    → Halts es text first (refusal_for kind n)
halts_misses es kind text first n wide wider m = record {
  front = m.front;
  after = m.expected ∷ m.later;
  rest = m.other ++ 10 ∷ m.rest;
  leads = m.leads;
  text_is = m.text_is;
  stuck = λ l more t (inner, k, meets, p) e.
      let clean = meets_clean m.expected l.words inner (All-head IsWide m.expected m.later (wider (m.expected ∷ m.later) m.front m.leads)) meets in
      let cut = same_cut 10 m.other (join_with_byte 32 l.words) m.rest t m.one_line (clean_line l.words clean) e in
      m.unmet inner (subst (λ z. Meets m.expected z inner) (sym (clean_words l.words clean) ∙ ap words (sym cut.0)) meets);
  some = λ e. absurd cc;
  is = ap (λ k. refusal_for k n) m.kind_is ∙ ap (refusal_for (kind_of m.expected)) m.number_is
      ∙ ap (λ k. pick k (m.expected ∷ m.later) (first + length m.front)) (sym (feeds-line m.other m.rest m.one_line));
}

halts_runs_out : (es : List Expected) (text : List ℕ) (first n : ℕ) → RunsOut es text first n → Halts es text first (Truncated n)
halts_runs_out es text first n m = record {
  front = m.front;
  after = m.expected ∷ m.later;
  rest = m.last;
  leads = m.leads;
  text_is = m.text_is;
  stuck = λ l more t p e. no_cut 10 m.last (join_with_byte 32 l.words) t m.no_feed e;
  some = λ e. absurd cc;
  is = ap Truncated m.number_is ∙ ap (λ k. pick k (m.expected ∷ m.later) (first + length m.front)) (sym (feeds-none m.last m.no_feed));
}

halts_goes_on : (es : List Expected) (text : List ℕ) (first n : ℕ) → GoesOn es text first n → Halts es text first (Trailing n)
halts_goes_on es text first n m = record {
  front = m.lines;
  after = [];
  rest = m.more;
  leads = m.leads;
  text_is = m.text_is;
  stuck = λ l more t p e. p;
  some = λ e. m.some;
  is = ap Trailing m.number_is;
}

-- rows stay wide
pub leads_wide : (es es' : List Expected) (lines : List Line) → All IsWide es → Leads es lines es' → All IsWide es'
leads_wide es es' [] wide x = subst (All IsWide) x wide
leads_wide [] es' (l ∷ lines) wide x = absurd x
leads_wide (e ∷ es) es' (l ∷ lines) wide (m, k, x, p) = leads_wide (m ++ es) es' lines (wide_next e es l.words m wide x) p

pub halts : (es : List Expected) (text : List ℕ) (first : ℕ) (refusal : ReportRefusal) → All IsWide es → refusal ≢ NoMemory → Stops es text first refusal → Halts es text first refusal
halts es text first (Header n) wide ne m = halts_misses es OfTitle text first n wide (λ fs lines. leads_wide es fs lines wide) m
halts es text first (Inputs n) wide ne m = halts_misses es OfInputs text first n wide (λ fs lines. leads_wide es fs lines wide) m
halts es text first (Rails n) wide ne m = halts_misses es OfRails text first n wide (λ fs lines. leads_wide es fs lines wide) m
halts es text first (Block n) wide ne m = halts_misses es OfHeading text first n wide (λ fs lines. leads_wide es fs lines wide) m
halts es text first (Grid n) wide ne m = halts_misses es OfCells text first n wide (λ fs lines. leads_wide es fs lines wide) m
halts es text first (Proofs n) wide ne m = halts_misses es OfProofs text first n wide (λ fs lines. leads_wide es fs lines wide) m
halts es text first (Trailing n) wide ne m = halts_goes_on es text first n m
halts es text first (Truncated n) wide ne m = halts_runs_out es text first n m
halts es text first NoMemory wide ne m = absurd (ne refl)

-- where lines go on as expected no other ones halt
pub goes_on : (es after : List Expected) (front ys : List Line) (l : Line) (q : List Expected) → Leads es front after → Leads es (front ++ l ∷ ys) q → (more : List Expected) × Leads after (l ∷ []) more
goes_on es after front ys l q x y =
    let parts = leads_split es q front (l ∷ ys) y in
    let same = leads_same es front parts.0 after parts.1 x in
    let here = leads_split after q (l ∷ []) ys (subst (λ z. Leads z (l ∷ ys) q) same parts.2) in
    (here.0, here.1)

behind_front : (l : Line) (more : List Line) (s t : List ℕ) → s ≡ text_of (l ∷ more) ++ t → s ≡ join_with_byte 32 l.words ++ 10 ∷ (text_of more ++ t)
behind_front l more s t e = e ∙ line_behind l more t

pub one_stop : (es : List Expected) (text : List ℕ) (first : ℕ) (d e : ReportRefusal) → All IsWide es → Halts es text first d → Halts es text first e → d ≡ e
one_stop es text first d e wide x y = elim (compare es x.after y.after x.front y.front x.rest y.rest wide x.leads y.leads (sym x.text_is ∙ y.text_is)) [
  | inl same ↦
      let after = leads_same es y.front x.after y.after (subst (λ z. Leads es z x.after) same.lines x.leads) y.leads in
      x.is ∙ ap (λ z. pick (feeds z) x.after (first + length x.front)) same.text ∙ ap (λ z. pick (feeds y.rest) z (first + length x.front)) after
      ∙ ap (λ z. pick (feeds y.rest) y.after (first + length z)) same.lines ∙ sym y.is
  | inr (inl b) ↦
      let on = goes_on es x.after x.front b.more b.next y.after x.leads (subst (λ z. Leads es z y.after) b.lines y.leads) in
      absurd (x.stuck b.next on.0 (text_of b.more ++ y.rest) on.1 (behind_front b.next b.more x.rest y.rest b.text))
  | inr (inr b) ↦
      let on = goes_on es y.after y.front b.more b.next x.after y.leads (subst (λ z. Leads es z x.after) b.lines x.leads) in
      absurd (y.stuck b.next on.0 (text_of b.more ++ x.rest) on.1 (behind_front b.next b.more y.rest x.rest b.text))
]

nothing_after : (l : Line) (more : List Expected) → Leads [] (l ∷ []) more → ⊥
nothing_after l more x = x

-- all lines that are expected, and a place where they do not go on, are two things
pub whole_or_stop : (es : List Expected) (text : List ℕ) (first : ℕ) (e : ReportRefusal) (lines : List Line) (rest : List ℕ) → All IsWide es → Leads es lines [] → text ≡ text_of lines ++ rest → Halts es text first e
    → ((n : ℕ) → e ≡ Trailing n → rest ≡ []) → ⊥
whole_or_stop es text first e lines rest wide x text-is y none = elim (compare es [] y.after lines y.front rest y.rest wide x y.leads (sym text-is ∙ y.text_is)) [
  | inl same ↦
      let after = leads_same es y.front y.after [] y.leads (subst (λ z. Leads es z []) same.lines x) in
      y.some after (sym same.text ∙ none (first + length y.front) (y.is ∙ ap (λ z. pick (feeds y.rest) z (first + length y.front)) after))
  | inr (inl b) ↦ let on = goes_on es [] lines b.more b.next y.after x (subst (λ z. Leads es z y.after) b.lines y.leads) in absurd (nothing_after b.next on.0 on.1)
  | inr (inr b) ↦
      let on = goes_on es y.after y.front b.more b.next [] y.leads (subst (λ z. Leads es z []) b.lines x) in
      absurd (y.stuck b.next on.0 (text_of b.more ++ rest) on.1 (behind_front b.next b.more y.rest rest b.text))
]

pub same_whole : (es : List Expected) (xs ys : List Line) (s t : List ℕ) → All IsWide es → Leads es xs [] → Leads es ys [] → text_of xs ++ s ≡ text_of ys ++ t → (xs ≡ ys) × (s ≡ t)
same_whole es xs ys s t wide x y e = elim (compare es [] [] xs ys s t wide x y e) [
  | inl same ↦ (same.lines, same.text)
  | inr (inl b) ↦ let on = goes_on es [] xs b.more b.next [] x (subst (λ z. Leads es z []) b.lines y) in absurd (nothing_after b.next on.0 on.1)
  | inr (inr b) ↦ let on = goes_on es [] ys b.more b.next [] y (subst (λ z. Leads es z []) b.lines x) in absurd (nothing_after b.next on.0 on.1)
]

-- ---- lines before

pub text_before : (front later : List Line) (rest : List ℕ) → text_of (front ++ later) ++ rest ≡ text_of front ++ (text_of later ++ rest)
text_before front later rest = ap (λ z. z ++ rest) (flat_map-append (λ l. words_text l.words) front later) ∙ append_assoc (text_of front) (text_of later) rest

count : (first n k a b : ℕ) → n ≡ k + b → k ≡ first + a → n ≡ first + (a + b)
count first n k a b e f = omega (arith, e, f)

misses_later : (es ms : List Expected) (kind : Kind) (lines : List Line) (text rest : List ℕ) (first second n : ℕ) → Leads es lines ms → text ≡ text_of lines ++ rest → second ≡ first + length lines
    → Misses ms kind rest second n → Misses es kind text first n
misses_later es ms kind lines text rest first second n x e f m = record {
  front = lines ++ m.front;
  expected = m.expected;
  later = m.later;
  other = m.other;
  rest = m.rest;
  leads = leads_append es ms (m.expected ∷ m.later) lines m.front x m.leads;
  kind_is = m.kind_is;
  text_is = e ∙ ap (λ z. text_of lines ++ z) m.text_is ∙ sym (text_before lines m.front (m.other ++ 10 ∷ m.rest));
  one_line = m.one_line;
  unmet = m.unmet;
  number_is = count first n second (length lines) (length m.front) m.number_is f ∙ ap (λ z. first + z) (sym (length-append lines m.front));
}

-- what stops behind lines that are as expected
pub stops_later : (es ms : List Expected) (lines : List Line) (text rest : List ℕ) (first second : ℕ) (refusal : ReportRefusal) → Leads es lines ms → text ≡ text_of lines ++ rest → second ≡ first + length lines
    → Stops ms rest second refusal → Stops es text first refusal
stops_later es ms lines text rest first second (Header n) x e f m = misses_later es ms OfTitle lines text rest first second n x e f m
stops_later es ms lines text rest first second (Inputs n) x e f m = misses_later es ms OfInputs lines text rest first second n x e f m
stops_later es ms lines text rest first second (Rails n) x e f m = misses_later es ms OfRails lines text rest first second n x e f m
stops_later es ms lines text rest first second (Block n) x e f m = misses_later es ms OfHeading lines text rest first second n x e f m
stops_later es ms lines text rest first second (Grid n) x e f m = misses_later es ms OfCells lines text rest first second n x e f m
stops_later es ms lines text rest first second (Proofs n) x e f m = misses_later es ms OfProofs lines text rest first second n x e f m
stops_later es ms lines text rest first second (Trailing n) x e f m = record {
  lines = lines ++ m.lines;
  more = m.more;
  leads = leads_append es ms [] lines m.lines x m.leads;
  text_is = e ∙ ap (λ z. text_of lines ++ z) m.text_is ∙ sym (text_before lines m.lines m.more);
  some = m.some;
  number_is = count first n second (length lines) (length m.lines) m.number_is f ∙ ap (λ z. first + z) (sym (length-append lines m.lines));
}
stops_later es ms lines text rest first second (Truncated n) x e f m = record {
  front = lines ++ m.front;
  expected = m.expected;
  later = m.later;
  last = m.last;
  leads = leads_append es ms (m.expected ∷ m.later) lines m.front x m.leads;
  text_is = e ∙ ap (λ z. text_of lines ++ z) m.text_is ∙ sym (text_before lines m.front m.last);
  no_feed = m.no_feed;
  number_is = count first n second (length lines) (length m.front) m.number_is f ∙ ap (λ z. first + z) (sym (length-append lines m.front));
}
stops_later es ms lines text rest first second NoMemory x e f m = tt

-- ---- in some place

-- the first line is not as expected
pub stops_here : (e : Expected) (es : List Expected) (text other rest : List ℕ) (first : ℕ) → Cuts 10 text other rest → ((more : List Expected) → Meets e (words other) more → ⊥) → Stops (e ∷ es) text first (refusal_for (kind_of e) first)
stops_here e es text other rest first cut unmet = here e (kind_of e) refl (record {
  front = [];
  expected = e;
  later = es;
  other = other;
  rest = rest;
  leads = refl;
  kind_is = refl;
  text_is = cut.text;
  one_line = cut.first;
  unmet = unmet;
  number_is = omega arith;
}) where
  here : (d : Expected) (kind : Kind) → kind_of d ≡ kind → Misses (e ∷ es) (kind_of d) text first first → Stops (e ∷ es) text first (refusal_for (kind_of d) first)
  here d OfTitle k m = subst (λ z. Stops (e ∷ es) text first (refusal_for z first)) (sym k) (subst (λ z. Misses (e ∷ es) z text first first) k m)
  here d OfInputs k m = subst (λ z. Stops (e ∷ es) text first (refusal_for z first)) (sym k) (subst (λ z. Misses (e ∷ es) z text first first) k m)
  here d OfRails k m = subst (λ z. Stops (e ∷ es) text first (refusal_for z first)) (sym k) (subst (λ z. Misses (e ∷ es) z text first first) k m)
  here d OfHeading k m = subst (λ z. Stops (e ∷ es) text first (refusal_for z first)) (sym k) (subst (λ z. Misses (e ∷ es) z text first first) k m)
  here d OfCells k m = subst (λ z. Stops (e ∷ es) text first (refusal_for z first)) (sym k) (subst (λ z. Misses (e ∷ es) z text first first) k m)
  here d OfProofs k m = subst (λ z. Stops (e ∷ es) text first (refusal_for z first)) (sym k) (subst (λ z. Misses (e ∷ es) z text first first) k m)

pub runs_out_here : (e : Expected) (es : List Expected) (text : List ℕ) (first : ℕ) → Without 10 text → RunsOut (e ∷ es) text first first
runs_out_here e es text first none = record { front = []; expected = e; later = es; last = text; leads = refl; text_is = refl; no_feed = none; number_is = omega arith }

-- a line as its words
pub line_read : (text line rest : List ℕ) (kind : Kind) → Cuts 10 text line rest → text ≡ text_of (record { kind = kind; words = words line } ∷ []) ++ rest
line_read text line rest kind cut =
    cut.text ∙ ap (λ z. z ++ 10 ∷ rest) (sym (join-pieces 32 line)) ∙ sym (line_behind (record { kind = kind; words = words line }) [] rest)

-- not one that follows all that is expected
abbrev pub IsWithin : ReportRefusal → Type 0
IsWithin (Header n) = Unit {0}
IsWithin (Inputs n) = Unit {0}
IsWithin (Rails n) = Unit {0}
IsWithin (Block n) = Unit {0}
IsWithin (Grid n) = Unit {0}
IsWithin (Proofs n) = Unit {0}
IsWithin (Trailing n) = ⊥
IsWithin (Truncated n) = Unit {0}
IsWithin NoMemory = ⊥

-- Lines are as expected to the end, or they stop.
pub record IsWhole (es : List Expected) (text : List ℕ) : Type 0 where
  pub lines : List Line
  pub rest : List ℕ
  pub leads : Leads es lines []
  pub text_is : text ≡ text_of lines ++ rest

within_kind : (kind : Kind) (n : ℕ) → IsWithin (refusal_for kind n)
within_kind OfTitle n = tt
within_kind OfInputs n = tt
within_kind OfRails n = tt
within_kind OfHeading n = tt
within_kind OfCells n = tt
within_kind OfProofs n = tt

pub some_end : (fuel : ℕ) (es : List Expected) (text : List ℕ) (first : ℕ) → length text ≤ fuel → IsWhole es text ⊎ ((refusal : ReportRefusal) × IsWithin refusal × Stops es text first refusal)
some_end fuel [] text first h = inl (record { lines = []; rest = text; leads = refl; text_is = refl })
some_end zero (e ∷ es) text first h = inr (Truncated first, tt, runs_out_here e es text first (no_bytes text (omega (arith, h)))) where
  no_bytes : (t : List ℕ) → length t ≡ 0 → Without 10 t
  no_bytes [] z = tt
  no_bytes (b ∷ t) z = absurd (omega (arith, z))
some_end (suc fuel) (e ∷ es) text first h = elim (feed_or_none text) [
  | inl none ↦ inr (Truncated first, tt, runs_out_here e es text first none)
  | inr (other, rest, cut) ↦ elim (tested_meets e (words other)) [
    | inr unmet ↦ inr (refusal_for (kind_of e) first, within_kind (kind_of e) first, stops_here e es text other rest first cut (λ more meets. unmet (more, meets)))
    | inl (more, meets) ↦
        let shorter : length rest ≤ fuel = let long = ap length cut.text in omega (arith, h, long, length-append other (10 ∷ rest)) in
        let one : Line = record { kind = kind_of e; words = words other } in
        let text-is = line_read text other rest (kind_of e) cut in
        elim (some_end fuel (more ++ es) rest (suc first) shorter) [
          | inl whole ↦ inl (record {
            lines = one ∷ whole.lines;
            rest = whole.rest;
            leads = (more, refl, meets, whole.leads);
            text_is = text-is ∙ ap (λ z. text_of (one ∷ []) ++ z) whole.text_is ∙ sym (text_before (one ∷ []) whole.lines whole.rest);
          })
          | inr (refusal, within, stops) ↦ inr (refusal, within, stops_later (e ∷ es) (more ++ es) (one ∷ []) text rest first (suc first) refusal (more, refl, meets, refl) text-is (omega arith) stops)
        ]
  ]
]
