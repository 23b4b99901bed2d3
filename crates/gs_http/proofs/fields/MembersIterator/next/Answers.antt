use Rattle.std.proofs.Common.{◌≡◌, ◌<◌, ◌+◌, ◌-◌, ◌∷◌, length, take, drop, arith, sym, ap, ◌∙◌}
use Rattle.std.specs.List.{slice_split}
use Rattle.std.proofs.lemmas.List.{take_rest}
use Rattle.gs_http.specs.Fields.{is_comma}
use Rattle.gs_http.specs.SaidFields.{members_in, members_left}
use Rattle.gs_http.proofs.Scans.{split_ends, split_goes}
use Rattle.gs_http.proofs.fields.MembersIterator.next.Goals as goal

pub returns-then-end-rest-clause-steps : goal.returns-then-end-rest-clause-steps
returns-then-end-rest-clause-steps c =
    ap members_in c.in_ok-rest.was ∙ split_ends is_comma c.in_ok-rest.rest.now (sym c.place_of-end.ensures.place ∙ c.if-end-rest.true)

pub returns-then-end-rest-clause-goes : goal.returns-then-end-rest-clause-goes
returns-then-end-rest-clause-goes c =
    let last = ap members_in c.in_ok-rest.was ∙ split_ends is_comma c.in_ok-rest.rest.now (sym c.place_of-end.ensures.place ∙ c.if-end-rest.true) in
    record { on = λ _. (tt, tt, omega (arith, ap length last)); keeps = tt; rests = λ _. tt }

pub returns-clause-steps : goal.returns-clause-steps
returns-clause-steps c =
    let rest = c.in_ok-rest.rest.now in
    let low : c.place_of-end.result < length rest = let w = c.place_of-end.ensures.within in let other = c.if-end-rest.false in omega arith in
    ap members_in c.in_ok-rest.was ∙ split_goes is_comma rest c.place_of-end.result c.place_of-end.ensures.place low ∙ simp (take_rest)

pub returns-clause-goes : goal.returns-clause-goes
returns-clause-goes c =
    let rest = c.in_ok-rest.rest.now in
    let low : c.place_of-end.result < length rest = let w = c.place_of-end.ensures.within in let other = c.if-end-rest.false in omega arith in
    let next : members_left c.args.self.now ≡ take c.place_of-end.result rest ∷ slice_split is_comma (take (length rest - (c.place_of-end.result + 1)) (drop (c.place_of-end.result + 1) rest)) =
    ap members_in c.in_ok-rest.was ∙ split_goes is_comma rest c.place_of-end.result c.place_of-end.ensures.place low ∙ simp (take_rest) in
    record { on = λ _. (tt, tt, omega (arith, ap length next)); keeps = tt; rests = λ _. tt }
