use Rattle.std.proofs.Common.{rules, subst}
use Rattle.four_lattice.specs.Rejected.{IsStatusOfWork}
use Rattle.four_lattice.proofs.RejectedLaws.{done_by_status}
use Rattle.four_lattice.proofs.run.answer.Goals as goal

pub returns-clause-answers : goal.returns-clause-answers
returns-clause-answers g c = record {
  ending = c.end_of_words-ending.result.ending;
  status_is = c.status.ensures;
  finishes = c.end_of_words-ending.ensures.finishes;
  noted = record { front = c.write_note.ensures.front; whole = search rules };
  notes_later = c.write_note.ensures.cause.later;
}

pub returns-clause-finders_used : goal.returns-clause-finders_used
returns-clause-finders_used g c status uses =
    c.end_of_words-ending.ensures.finders_used (done_by_status c.end_of_words-ending.result.ending (subst IsStatusOfWork c.status.ensures status)) uses
