-- A report as the lines before the blocks, the blocks and the last line.
use Rattle.std.proofs.Common.{◌≡◌, ◌≢◌, ℕ, suc, ◌+◌, ◌<◌, ◌≤◌, List, [], ◌∷◌, ◌++◌, length, refl, sym, ap, ◌∙◌, subst, arith, append_assoc, length-append, codes}
use Rattle.std.specs.Prelude.{All}
use Rattle.std.specs.List.{flat_map}
use Rattle.std.proofs.lemmas.List.{append-nil}
use Rattle.report_text.specs.Bounds.{AreNames, AreRails, IsReport}
use Rattle.report_text.specs.Expected.{Expected, Leads, Stops, AreBlocks, report_expected, inputs_expected, rails_expected, blocks_expected, after_title}
use Rattle.report_text.specs.Report.{ReportParts, BlockParts, Line, text_of, title_line, inputs_line, rails_lines, head_lines, head_text, blocks_text, report_text}
use Rattle.report_text.specs.declared.answer.Version.{Version}
use Rattle.report_text.specs.declared.answer.Version.TheVariants as versions
use Rattle.report_text.specs.declared.report.ReportRefusal.{ReportRefusal}
use Rattle.report_text.proofs.BlocksLaws.{lines_bound}
use Rattle.report_text.proofs.MemberLaws.{head_lead, text_of-head}
use Rattle.report_text.proofs.StopLaws.{stops_later, text_before}

title_lead : (v : Version) → Leads report_expected (title_line v ∷ []) (inputs_expected ++ (rails_expected v ++ blocks_expected v))
title_lead v = (after_title v, refl, (v, refl, refl), append-nil (after_title v))

names_lead : (v : Version) (names : List (List ℕ)) → AreNames names → Leads report_expected (title_line v ∷ inputs_line names ∷ []) (rails_expected v ++ blocks_expected v)
names_lead v names are = (after_title v, refl, (v, refl, refl), subst (λ es. Leads es (inputs_line names ∷ []) (rails_expected v ++ blocks_expected v)) (sym (append-nil (after_title v))) ([], refl, (names, are, refl, refl), refl))

pub inputs_fault : (v : Version) (bytes rest : List ℕ) (refusal : ReportRefusal) → bytes ≡ text_of (title_line v ∷ []) ++ rest → ((later : List Expected) → Stops (inputs_expected ++ later) rest 2 refusal) → Stops report_expected bytes 1 refusal
inputs_fault v bytes rest refusal e stops =
    stops_later report_expected (inputs_expected ++ (rails_expected v ++ blocks_expected v)) (title_line v ∷ []) bytes rest 1 2 refusal (title_lead v) e refl (stops (rails_expected v ++ blocks_expected v))

two_lines : (v : Version) (names : List (List ℕ)) (bytes rest after : List ℕ) → bytes ≡ text_of (title_line v ∷ []) ++ rest → rest ≡ text_of (inputs_line names ∷ []) ++ after → bytes ≡ text_of (title_line v ∷ inputs_line names ∷ []) ++ after
two_lines v names bytes rest after e f = e ∙ ap (λ z. text_of (title_line v ∷ []) ++ z) f ∙ sym (text_before (title_line v ∷ []) (inputs_line names ∷ []) after)

pub rails_fault : (v : Version) (names : List (List ℕ)) (bytes rest after : List ℕ) (refusal : ReportRefusal) → bytes ≡ text_of (title_line v ∷ []) ++ rest → AreNames names → rest ≡ text_of (inputs_line names ∷ []) ++ after
    → ((later : List Expected) → Stops (rails_expected v ++ later) after 3 refusal) → Stops report_expected bytes 1 refusal
rails_fault v names bytes rest after refusal e are f stops =
    stops_later report_expected (rails_expected v ++ blocks_expected v) (title_line v ∷ inputs_line names ∷ []) bytes after 1 3 refusal (names_lead v names are) (two_lines v names bytes rest after e f) refl (stops (blocks_expected v))

head_front : (v : Version) (rails : ℕ) (names : List (List ℕ)) (bytes rest after last : List ℕ) → bytes ≡ text_of (title_line v ∷ []) ++ rest → rest ≡ text_of (inputs_line names ∷ []) ++ after → after ≡ text_of (rails_lines v rails) ++ last
    → bytes ≡ text_of (head_lines v rails names) ++ last
head_front v rails names bytes rest after last e f g =
    two_lines v names bytes rest after e f ∙ ap (λ z. text_of (title_line v ∷ inputs_line names ∷ []) ++ z) g ∙ sym (text_before (title_line v ∷ inputs_line names ∷ []) (rails_lines v rails) last)

many_lines : (v : Version) (rails : ℕ) (names : List (List ℕ)) (first : ℕ) → first ≡ 3 + length (rails_expected v) → first ≡ 1 + length (head_lines v rails names)
many_lines versions.One rails names first e = e
many_lines versions.Two rails names first e = e

pub blocks_refused : (v : Version) (rails : ℕ) (names : List (List ℕ)) (bytes rest after last : List ℕ) (first : ℕ) (refusal : ReportRefusal) → bytes ≡ text_of (title_line v ∷ []) ++ rest → AreNames names → rest ≡ text_of (inputs_line names ∷ []) ++ after
    → AreRails v rails → after ≡ text_of (rails_lines v rails) ++ last → first ≡ 3 + length (rails_expected v) → Stops (blocks_expected v) last first refusal → Stops report_expected bytes 1 refusal
blocks_refused v rails names bytes rest after last first refusal e are f is g n stops =
    stops_later report_expected (blocks_expected v) (head_lines v rails names) bytes last 1 first refusal (head_lead v rails names is are) (head_front v rails names bytes rest after last e f g) (many_lines v rails names first n) stops

pub report_read : (v : Version) (rails : ℕ) (names : List (List ℕ)) (blocks : List BlockParts) (bytes rest after last : List ℕ) → bytes ≡ text_of (title_line v ∷ []) ++ rest → AreNames names → rest ≡ text_of (inputs_line names ∷ []) ++ after
    → AreRails v rails → after ≡ text_of (rails_lines v rails) ++ last → AreBlocks v last blocks
    → IsReport (record { version = v; rails = rails; input_names = names; blocks = blocks }) × (bytes ≡ report_text (record { version = v; rails = rails; input_names = names; blocks = blocks }))
unfolding report_text
report_read v rails names blocks bytes rest after last e are f is g all = (
  record { rails = is; names = are; blocks = all.each },
  head_front v rails names bytes rest after last e f g ∙ ap (λ z. z ++ last) (text_of-head v rails names) ∙ ap (λ z. head_text v rails names ++ z) all.text,
)

-- the head is not empty
pub head_room : (v : Version) (rails : ℕ) (names : List (List ℕ)) (bytes rest after last : List ℕ) (first : ℕ) → bytes ≡ text_of (title_line v ∷ []) ++ rest → rest ≡ text_of (inputs_line names ∷ []) ++ after → after ≡ text_of (rails_lines v rails) ++ last
    → first ≡ 3 + length (rails_expected v) → length bytes ≤ 536870912 → first + length last ≤ 536870913
head_room v rails names bytes rest after last first e f g n few =
    let whole = ap length (head_front v rails names bytes rest after last e f g) in
    let lines = many_lines v rails names first n in
    let long = lines_bound (head_lines v rails names) in
    omega (arith, whole, lines, long, few, length-append (text_of (head_lines v rails names)) last)
