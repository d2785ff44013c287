-- The calls and answers that the code passes around, as the plain sheet knows them.
use Rattle.std.specs.Prelude.{vec_items}
use Rattle.sheet.specs.Calls.{Answer, Call}
use Rattle.sheet.specs.Happened.{counts_shown, shown_of}
use Rattle.sheet.specs.Stored.{no_at}
use Rattle.history.specs.declared.call.Answer.TheVariants as given
use Rattle.history.specs.declared.call.Answer.{Answer as GivenAnswer}
use Rattle.history.specs.declared.call.Call.TheVariants as asked
use Rattle.history.specs.declared.call.Call.{Call as AskedCall}

-- a buffer counts as its bytes
abbrev pub call_of : AskedCall → Call
call_of (asked.Enter position bar) = Call.enter position bar
call_of (asked.Strike position) = Call.strike position
call_of (asked.SetLevel level) = Call.set_level level
call_of (asked.Open position) = Call.opening position
call_of (asked.Close job position bar) = Call.close job position bar
call_of (asked.Withdraw job position) = Call.withdraw job position
call_of (asked.Save buffer) = Call.save (vec_items buffer)
call_of (asked.Load bytes) = Call.load (vec_items bytes)
call_of (asked.Position position) = Call.ask_position position
call_of asked.Counts = Call.ask_counts
call_of asked.MayRelease = Call.ask_release
call_of asked.Level = Call.ask_level
call_of asked.Job = Call.ask_job

-- what came of a call of a list: the sheet's answer, or that its slip was not in hand
pub data Reply : Type 0 where
  answer : Answer → Reply
  not_in_hand : Reply

abbrev pub reply_of : GivenAnswer → Reply
reply_of given.Done = answer Answer.done
reply_of (given.Refused question) = answer (Answer.refused question)
reply_of (given.GaveSlip job position) = answer (Answer.gave_slip job position)
reply_of (given.Saved blocks buffer) = answer (Answer.saved blocks (vec_items buffer))
reply_of (given.NotLoaded no_to) = answer (Answer.not_loaded (no_at no_to.block no_to.question))
reply_of (given.Shows s) = answer (Answer.shows (shown_of s))
reply_of (given.Counted counts) = answer (counts_shown counts)
reply_of (given.Says b) = answer (Answer.says b)
reply_of (given.Number n) = answer (Answer.number n)
reply_of given.NotInHand = not_in_hand
