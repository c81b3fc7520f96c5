-- Blocks one after another, and the last line.
use Rattle.std.proofs.Common.{◌≡◌, ◌≢◌, ℕ, suc, ◌+◌, ◌<◌, ◌≤◌, ◌⊎◌, inl, inr, List, [], ◌∷◌, ◌++◌, length, map, refl, sym, ap, ◌∙◌, subst, arith, append_assoc, length-append, codes}
use Rattle.std.specs.Prelude.{All}
use Rattle.std.specs.List.{flat_map, join_with_byte}
use Rattle.std.proofs.lemmas.List.{append-nil, map_push}
use Rattle.std.proofs.lemmas.List.Concat.{flat_map-append}
use Rattle.std.proofs.lemmas.List.Elements.{All-nil, All-push}
use Rattle.report_text.specs.Bounds.{IsBlock}
use Rattle.report_text.specs.Expected.{Expected, Meets, Leads, Stops, Misses, RunsOut, AreBlocks, block_expected, blocks_expected, kind_of, refusal_of}
use Rattle.report_text.specs.Expected.Expected.{Heading, HeadingOrEnd}
use Rattle.report_text.specs.Pieces.{Without, words}
use Rattle.report_text.specs.Reading.{HasBlock}
use Rattle.report_text.specs.Report.{BlockParts, Kind, Line, line, text_of, words_text, block_lines, block_text, blocks_text, lines_in, end_line, parts_of_block}
use Rattle.report_text.specs.Report.Kind.{OfHeading, OfCells, OfProofs}
use Rattle.report_text.specs.declared.answer.Block.{Block}
use Rattle.report_text.specs.declared.answer.Version.{Version}
use Rattle.report_text.specs.declared.block.BlockFault.{BlockFault}
use Rattle.report_text.specs.declared.block.BlockFault.TheVariants as faults
use Rattle.report_text.specs.declared.report.ReportRefusal.{ReportRefusal}
use Rattle.report_text.specs.declared.report.ReportRefusal.TheVariants as refusals
use Rattle.report_text.proofs.JoinLaws.{join-pieces}
use Rattle.report_text.proofs.LeadLaws.{leads_append, leads_wider}
use Rattle.report_text.proofs.LinesLaws.{length-block_lines}
use Rattle.report_text.proofs.MemberLaws.{blocks_lead, end_lead, text_of-append, text_of-block, text_of-blocks}
use Rattle.report_text.proofs.StopLaws.{stops_later, text_before}

-- these blocks were read, and the next line has this number
pub record BlocksRead (v : Version) (bytes : List ℕ) (first : ℕ) (blocks : List BlockParts) (rest : List ℕ) (number : ℕ) : Type 0 where
  pub each : All (IsBlock v) blocks
  pub text : bytes ≡ blocks_text v blocks ++ rest
  pub number_is : number ≡ first + length (flat_map (block_lines v) blocks)

pub BlocksRead-none : (v : Version) (bytes : List ℕ) (first : ℕ) (blocks : List BlockParts) → blocks ≡ [] → BlocksRead v bytes first blocks bytes first
BlocksRead-none v bytes first blocks e = subst (λ bs. BlocksRead v bytes first bs bytes first) (sym e) (record { each = All-nil (IsBlock v); text = refl; number_is = omega arith })

pub BlocksRead-push : (v : Version) (bytes : List ℕ) (first : ℕ) (blocks : List BlockParts) (rest : List ℕ) (number : ℕ) (b : BlockParts) (after : List ℕ) (next : ℕ) → BlocksRead v bytes first blocks rest number → HasBlock v rest b after
    → next ≡ number + lines_in v b → BlocksRead v bytes first (blocks ++ b ∷ []) after next
BlocksRead-push v bytes first blocks rest number b after next h has e = record {
  each = All-push (IsBlock v) blocks b h.each has.is_block;
  text = h.text ∙ ap (λ z. blocks_text v blocks ++ z) has.text ∙ sym (append_assoc (blocks_text v blocks) (block_text v b) after)
      ∙ ap (λ z. (blocks_text v blocks ++ z) ++ after) (sym (append-nil (block_text v b))) ∙ ap (λ z. z ++ after) (sym (flat_map-append (block_text v) blocks (b ∷ [])));
  number_is = (
      let count = h.number_is in
      let more = ap length (flat_map-append (block_lines v) blocks (b ∷ [])) in
      let one = ap length (append-nil (block_lines v b)) in
      omega (arith, count, e, more, one, length-append (flat_map (block_lines v) blocks) (block_lines v b ++ []))
      );
}

-- a line has at least its line feed
pub lines_bound : (lines : List Line) → length lines ≤ length (text_of lines)
lines_bound [] = omega arith
lines_bound (l ∷ lines) =
    let more = lines_bound lines in
    omega (arith, more, length-append (words_text l.words) (text_of lines), length-append (join_with_byte 32 l.words) (10 ∷ []))

pub line_bound : (v : Version) (bytes : List ℕ) (first : ℕ) (blocks : List BlockParts) (rest : List ℕ) (number : ℕ) → BlocksRead v bytes first blocks rest number → number + length rest ≤ first + length bytes
line_bound v bytes first blocks rest number h =
    let count = h.number_is in
    let long = ap length h.text in
    let few = lines_bound (flat_map (block_lines v) blocks) in
    let same = ap length (text_of-blocks v blocks) in
    omega (arith, count, long, few, same, length-append (blocks_text v blocks) rest)

pub block_shorter : (v : Version) (rest : List ℕ) (b : BlockParts) (after : List ℕ) → HasBlock v rest b after → lines_in v b + length after ≤ length rest
block_shorter v rest b after has =
    let long = ap length has.text in
    let few = lines_bound (block_lines v b) in
    let same = ap length (text_of-block v b) in
    omega (arith, long, few, same, length-append (block_text v b) after)

pub block_some : (v : Version) (b : BlockParts) → 1 ≤ lines_in v b
block_some v b = let count = length-block_lines v b in omega (arith, count)

pub all_blocks : (v : Version) (bytes : List ℕ) (first : ℕ) (blocks : List BlockParts) (rest more : List ℕ) (number : ℕ) → BlocksRead v bytes first blocks rest number → rest ≡ codes "end\n" ++ more → more ≡ [] → AreBlocks v bytes blocks
all_blocks v bytes first blocks rest more number h e none = record { each = h.each; text = h.text ∙ ap (λ z. blocks_text v blocks ++ z) (e ∙ ap (λ z. codes "end\n" ++ z) none) }

blocks_front : (v : Version) (bytes : List ℕ) (first : ℕ) (blocks : List BlockParts) (rest : List ℕ) (number : ℕ) → BlocksRead v bytes first blocks rest number → bytes ≡ text_of (flat_map (block_lines v) blocks) ++ rest
blocks_front v bytes first blocks rest number h = h.text ∙ ap (λ z. z ++ rest) (sym (text_of-blocks v blocks))

pub more_behind : (v : Version) (bytes : List ℕ) (first : ℕ) (blocks : List BlockParts) (rest more : List ℕ) (number : ℕ) → BlocksRead v bytes first blocks rest number → rest ≡ codes "end\n" ++ more → more ≢ []
    → Stops (blocks_expected v) bytes first (refusals.Trailing (number + 1))
more_behind v bytes first blocks rest more number h e some =
    stops_later (blocks_expected v) (blocks_expected v) (flat_map (block_lines v) blocks) bytes rest first number (refusals.Trailing (number + 1)) (blocks_lead v blocks h.each) (blocks_front v bytes first blocks rest number h) h.number_is
    (record { lines = end_line ∷ []; more = more; leads = end_lead v; text_is = e; some = some; number_is = refl })

-- where a block is expected, the last line is not one
first_word_end : (v : Version) (other after rest : List ℕ) → ((more : List ℕ) → rest ≢ codes "end\n" ++ more) → rest ≡ other ++ 10 ∷ after → words other ≢ codes "end" ∷ []
first_word_end v other after rest none e f = none after (e ∙ ap (λ z. z ++ 10 ∷ after) (sym (join-pieces 32 other) ∙ ap (join_with_byte 32) f))

-- lines of a block are lines of blocks
opened_wider : (v : Version) (lines : List Line) (after : List Expected) (l : Line) → Leads (block_expected v) (l ∷ lines) after → Leads (blocks_expected v) (l ∷ lines) (after ++ blocks_expected v)
opened_wider v lines after l (m, k, x, p) =
    (m ++ blocks_expected v, k, inr (m, x, refl), subst (λ es. Leads es lines (after ++ blocks_expected v)) (ap (λ z. z ++ blocks_expected v) (append-nil m) ∙ sym (append-nil (m ++ blocks_expected v))) (leads_wider (m ++ []) after (blocks_expected v) lines p))

head_of : (v : Version) (e : Expected) (later : List Expected) → Leads (block_expected v) [] (e ∷ later) → Heading v ≡ e
head_of v e later x = cc

misses_wider : (v : Version) (kind : Kind) (text : List ℕ) (first n : ℕ) (front : List Line) (e : Expected) (later : List Expected) (other rest : List ℕ) → Leads (block_expected v) front (e ∷ later) → kind ≡ kind_of e
    → text ≡ text_of front ++ (other ++ 10 ∷ rest) → Without 10 other → ((more : List Expected) → Meets e (words other) more → ⊥) → n ≡ first + length front → ((more : List ℕ) → text ≢ codes "end\n" ++ more)
    → Misses (blocks_expected v) kind text first n
misses_wider v kind text first n [] e later other rest x k t one unmet number none =
    let same = head_of v e later x in
    record {
      front = [];
      expected = HeadingOrEnd v;
      later = [];
      other = other;
      rest = rest;
      leads = refl;
      kind_is = k ∙ ap kind_of (sym same);
      text_is = t;
      one_line = one;
      unmet = λ more meets. neither (subst (λ z. (inner : List Expected) → Meets z (words other) inner → ⊥) (sym same) unmet) more meets;
      number_is = number;
    } where
      neither : ((inner : List Expected) → Meets (Heading v) (words other) inner → ⊥) → (more : List Expected) → Meets (HeadingOrEnd v) (words other) more → ⊥
      neither closed more (inl ended) = first_word_end v other rest text none t ended.0
      neither closed more (inr opened) = closed opened.0 opened.1
misses_wider v kind text first n (l ∷ front) e later other rest x k t one unmet number none = record {
  front = l ∷ front;
  expected = e;
  later = later ++ blocks_expected v;
  other = other;
  rest = rest;
  leads = opened_wider v front (e ∷ later) l x;
  kind_is = k;
  text_is = t;
  one_line = one;
  unmet = unmet;
  number_is = number;
}

misses_block : (v : Version) (kind : Kind) (text : List ℕ) (first n : ℕ) → ((more : List ℕ) → text ≢ codes "end\n" ++ more) → Misses (block_expected v) kind text first n → Misses (blocks_expected v) kind text first n
misses_block v kind text first n none m = misses_wider v kind text first n m.front m.expected m.later m.other m.rest m.leads m.kind_is m.text_is m.one_line m.unmet m.number_is none

runs_out_wider : (v : Version) (text : List ℕ) (first n : ℕ) (front : List Line) (e : Expected) (later : List Expected) (last : List ℕ) → Leads (block_expected v) front (e ∷ later) → text ≡ text_of front ++ last → Without 10 last
    → n ≡ first + length front → RunsOut (blocks_expected v) text first n
runs_out_wider v text first n [] e later last x t none number = record { front = []; expected = HeadingOrEnd v; later = []; last = last; leads = refl; text_is = t; no_feed = none; number_is = number }
runs_out_wider v text first n (l ∷ front) e later last x t none number =
    record { front = l ∷ front; expected = e; later = later ++ blocks_expected v; last = last; leads = opened_wider v front (e ∷ later) l x; text_is = t; no_feed = none; number_is = number }

stops_wider : (v : Version) (text : List ℕ) (first : ℕ) (fault : BlockFault) → ((more : List ℕ) → text ≢ codes "end\n" ++ more) → Stops (block_expected v) text first (refusal_of fault) → Stops (blocks_expected v) text first (refusal_of fault)
stops_wider v text first (faults.Block n) none m = misses_block v OfHeading text first n none m
stops_wider v text first (faults.Grid n) none m = misses_block v OfCells text first n none m
stops_wider v text first (faults.Proofs n) none m = misses_block v OfProofs text first n none m
stops_wider v text first (faults.Truncated n) none m = runs_out_wider v text first n m.front m.expected m.later m.last m.leads m.text_is m.no_feed m.number_is
stops_wider v text first faults.NoMemory none m = tt

pub blocks_fault : (v : Version) (bytes : List ℕ) (first : ℕ) (blocks : List BlockParts) (rest : List ℕ) (number : ℕ) (fault : BlockFault) → BlocksRead v bytes first blocks rest number → ((more : List ℕ) → rest ≢ codes "end\n" ++ more)
    → Stops (block_expected v) rest number (refusal_of fault) → Stops (blocks_expected v) bytes first (refusal_of fault)
blocks_fault v bytes first blocks rest number fault h none stops =
    stops_later (blocks_expected v) (blocks_expected v) (flat_map (block_lines v) blocks) bytes rest first number (refusal_of fault) (blocks_lead v blocks h.each) (blocks_front v bytes first blocks rest number h) h.number_is
    (stops_wider v rest number fault none stops)

pub parts-push : (blocks more : List Block) (b : Block) → more ≡ blocks ++ b ∷ [] → map parts_of_block more ≡ map parts_of_block blocks ++ parts_of_block b ∷ []
parts-push blocks more b e = ap (map parts_of_block) e ∙ map_push parts_of_block blocks b
