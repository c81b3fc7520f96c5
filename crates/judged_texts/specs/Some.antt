-- That told inputs come to a judgement.
use Rattle.std.specs.Prelude.{◌≡◌, List, ℕ, ⊤, Some, IsSomeAnd}
use Rattle.std.specs.declared.option.Option.{Option}
use Rattle.four_lattice.specs.Judge.{Texts, Judgement, Comes}
use Rattle.four_lattice.specs.declared.words.Job.{Job}
use Rattle.four_lattice.specs.declared.words.Job.TheVariants as job

-- Whatever is asked for, and whatever both texts are: it cannot be that they come to no judgement. So there is one, in the sense in which each thing is so
-- or is not so; the logic takes no such case for granted, and says this by denying twice.
abbrev pub IsSomeJudgement : Type 0
IsSomeJudgement =
    (asked : Option Job) (x : Texts) (pla side : List ℕ) → x.pla ≡ Some pla → x.side ≡ Some side → ((j : Judgement) → Comes IsSomeAnd asked x j → ⊥) → ⊥

-- a job that tests no journal
abbrev pub IsPlain : Job → Type 0
IsPlain (job.Pairs output) = ⊤
IsPlain (job.Dual output) = ⊤
IsPlain (job.Cnf output size) = ⊤
IsPlain job.Verify = ⊤
IsPlain job.Check = ⊤
IsPlain job.Audit = ⊥
IsPlain job.Renew = ⊥
IsPlain (job.Synth conflicts output rails) = ⊤
IsPlain (job.Map conflicts output) = ⊤
IsPlain (job.Trial conflicts number) = ⊤

-- Of such a job there is a judgement, with nothing denied.
abbrev pub IsPlainJudgement : Type 0
IsPlainJudgement =
    (job : Job) (x : Texts) (pla side : List ℕ) → IsPlain job → x.pla ≡ Some pla → x.side ≡ Some side → (j : Judgement) × Comes IsSomeAnd (Some job) x j
