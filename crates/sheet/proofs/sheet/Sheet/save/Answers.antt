use Rattle.std.proofs.Common.{sym, refl, ◌∙◌, subst}
use Rattle.std.proofs.lemmas.List.{length-map}
use Rattle.std.proofs.lemmas.Bool.{eqb-true, leb-true}
use Rattle.busbar.proofs.Asking.{asked_yes}
use Rattle.sheet.specs.Happened.{plain_of}
use Rattle.sheet.specs.Position.{entry_of}
use Rattle.sheet.specs.Trip.{LoadsAs}
use Rattle.sheet.proofs.Stores.{saved_is, saved_whole}
use Rattle.sheet.proofs.Trips.{all_passing, saved_front, stored_loads}
use Rattle.sheet.proofs.sheet.Sheet.save.Goals as goal

pub returns-clause-happened : goal.returns-clause-happened
returns-clause-happened g c =
    let counts = c.of-counts.ensures in
    let split = c.split_at_mut-head.ensures in
    let sheet = c.args.self.now in
    let p = plain_of sheet in
    let n = c.standing-standing.result in
    let count = c.standing-standing.ensures ∙ counts.standing in
    let shut = sym counts.opened ∙ eqb-true _ _ (asked_yes _ _ _ (sym c.ask.ensures ∙ c.in_ok-ask.was)) in
    let room = leb-true _ _ (asked_yes _ _ _ (sym c.ask-2.ensures ∙ c.in_ok-ask-2.was)) in
    let whole = saved_whole p c.args.buffer.now _ _ c.write_block.new.part c.write_lines.new.lines n count split.front_len split.back c.write_block.ensures c.write_lines.ensures in
    record {
      plain = refl;
      answer = λ sound. saved_is p c.args.buffer.now _ n count shut room whole;
      sound = λ sound. sound;
      same_feeder = refl;
    }

pub returns-clause-loads : goal.returns-clause-loads
returns-clause-loads g c =
    let counts = c.of-counts.ensures in
    let split = c.split_at_mut-head.ensures in
    let sheet = c.args.self.now in
    let p = plain_of sheet in
    let n = c.standing-standing.result in
    let count = c.standing-standing.ensures ∙ counts.standing in
    let shut = sym counts.opened ∙ eqb-true _ _ (asked_yes _ _ _ (sym c.ask.ensures ∙ c.in_ok-ask.was)) in
    let whole = saved_whole p c.args.buffer.now _ _ c.write_block.new.part c.write_lines.new.lines n count split.front_len split.back c.write_block.ensures c.write_lines.ensures in
    subst (LoadsAs p) (sym (saved_front p c.args.buffer.now _ n count whole)) (stored_loads p (length-map sheet.table entry_of ∙ sheet.full) sheet.level.least sheet.level.most (all_passing sheet.table) shut)
