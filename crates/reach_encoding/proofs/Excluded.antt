-- What a formula without solutions excludes, and that formulas are small enough.
use Rattle.path_meaning.proofs.Tools.{realised_larger, realised_plainly}
use Rattle.reach_encoding.specs.Encoding.{Question, IsQuestion, encoding}
use Rattle.reach_encoding.specs.EncodeParts.{IsAsked}
use Rattle.reach_encoding.specs.Solved.{IsExcludedBelow, IsSmallEnough, question_of}
use Rattle.reach_encoding.proofs.EncodeLength.{length-clauses}
use Rattle.reach_encoding.proofs.ModelLaws.{solution_of}

pub excluded_below : IsExcludedBelow
excluded_below f rails small large function size few fits none h =
    none (solution_of (question_of f rails large) (record { function = function; size = size; few = few; array = tt })
    ((realised_plainly f.inputs rails f large).1 (realised_larger f.inputs rails f small large fits size h)))

asked_of : (q : Question) → IsQuestion q → IsAsked q
asked_of q ok = record { function = ok.function; size = ok.size; few = ok.few; array = ok.array }

pub small_enough : IsSmallEnough
unfolding encoding
small_enough q ok = length-clauses q (asked_of q ok)
