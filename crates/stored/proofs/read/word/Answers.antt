use Rattle.std.proofs.Common.{ℕ, ◌≡◌, ◌+◌, ◌-◌, ◌∙◌, List, min, get_or, get_or-drop, length, length-drop, map, take, drop, ap, rules, tests, arith}
use Rattle.std.specs.List.{range_with_len}
use Rattle.std.proofs.lemmas.List.{take_all, drop_min, get_or-take, length-take-le}
use Rattle.std.proofs.lemmas.List.FromFn.{fill_by_all}
use Rattle.stored.proofs.FromFn.{made_by}
use Rattle.stored.proofs.read.word.Goals as goal

-- what lies from a place on, read at k, is what lies k behind the place
behind : (part : List ℕ) (place from k : ℕ) → from ≡ min place (length part) → get_or (take (length part - from) (drop from part)) k 0 ≡ get_or part (place + k) 0
behind part place from k e =
    ap (λ l. get_or l k 0) (take_all (length part - from) (drop from part) (omega (arith, length-drop from part)))
    ∙ ap (λ m. get_or (drop m part) k 0) e
    ∙ ap (λ l. get_or l k 0) (drop_min place part)
    ∙ get_or-drop place part k 0

pub returns-in-Some : goal.returns-in-Some
returns-in-Some g c =
    let part = c.args.part.now in
    let from = c.min.result in
    let chunk = c.in-Some.ensures.cases in
    fill_by_all (λ (k : ℕ). get_or part (c.args.place + k) 0) c.in-Some.bytes.now g.row.N 0
    (ap (λ l. length l) chunk.same ∙ length-take-le g.row.N _ chunk.enough)
    (λ k low. ap (λ l. get_or l k 0) chunk.same ∙ get_or-take g.row.N _ k 0 low ∙ behind part c.args.place from k c.min.ensures)

pub returns-in-None : goal.returns-in-None
returns-in-None g c =
    let part = c.args.part.now in
    let from = c.min.result in
    made_by _ _ (λ (k : ℕ). get_or (take (length part - from) (drop from part)) k 0) (λ x y q k. search (rules, tests)) _ _ c.from_fn.ensures.items
    ∙ (λ i. map (λ (k : ℕ). behind part c.args.place from k c.min.ensures i) (range_with_len 0 g.row.N))
