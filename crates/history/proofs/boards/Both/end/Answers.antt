use Rattle.std.proofs.Common.{sym, refl, ◌∙◌}
use Rattle.std.proofs.lemmas.List.{nil_from_length}
use Rattle.history.proofs.Ends.{ended, ending_first, ending_second, fits_first, fits_second}
use Rattle.history.proofs.boards.Both.end.Goals as goal

pub take_back-requires : goal.take_back-requires
take_back-requires g c =
    fits_first _ _ c.loop-slip.invariant c.args.self.apart c.in-Some.ensures.items (sym c.job.ensures ∙ c.if-job.true ∙ c.job-in-Some.ensures.value)

pub take_back-requires-else-job : goal.take_back-requires-else-job
take_back-requires-else-job g c =
    fits_second _ _ c.loop-slip.invariant c.args.self.apart c.in-Some.ensures.items (λ same. c.if-job.false (c.job.ensures ∙ same ∙ sym c.job-in-Some.ensures.value))

pub loop-slip-preserved-then-job : goal.loop-slip-preserved-then-job
loop-slip-preserved-then-job g c =
    ending_first _ _ c.loop-slip.invariant c.args.self.apart c.in-Some.ensures.items _ (sym c.job.ensures ∙ c.if-job.true ∙ c.job-in-Some.ensures.value) c.take_back.ensures

pub loop-slip-preserved : goal.loop-slip-preserved
loop-slip-preserved g c =
    ending_second _ _ c.loop-slip.invariant c.args.self.apart c.in-Some.ensures.items _ (λ same. c.if-job.false (c.job.ensures ∙ same ∙ sym c.job-in-Some.ensures.value)) c.take_back-else-job.ensures

pub returns : goal.returns
returns g c =
    let slips = c.loop-slip.slips in
    let both = ended c.loop-slip.invariant (nil_from_length slips.items (sym slips.ok.0 ∙ c.in_default.ensures.cases.0)) in
    record { first = both.0; second = both.1; first_answers = refl; second_answers = refl }
