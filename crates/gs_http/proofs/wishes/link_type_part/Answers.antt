use Rattle.std.proofs.Common.{◌<◌, length, sym, ◌∙◌, arith}
use Rattle.gs_dlink.specs.Uris.{separates_parts}
use Rattle.gs_http.specs.Wishes.{is_link_type}
use Rattle.gs_http.proofs.Scans.{none_found, part_found, part_passed}
use Rattle.gs_http.proofs.wishes.link_type_part.Goals as goal

pub returns-then-is_link_type : goal.returns-then-is_link_type
returns-then-is_link_type c =
    sym (c.loop-rest.invariant ∙ part_found separates_parts is_link_type c.loop-rest.rest.now c.part_len-end.result c.part_len-end.ensures.place c.part_len-end.ensures.within (sym c.is_link_type.ensures ∙ c.if-is_link_type.true))

pub returns-then-end-rest : goal.returns-then-end-rest
returns-then-end-rest c =
    sym (c.loop-rest.invariant ∙ none_found separates_parts is_link_type c.loop-rest.rest.now c.part_len-end.result c.part_len-end.ensures.place c.if-end-rest.true (sym c.is_link_type.ensures ∙ c.if-is_link_type.false))

pub loop-rest-preserved : goal.loop-rest-preserved
loop-rest-preserved c =
    let low : c.part_len-end.result < length c.loop-rest.rest.now = let w = c.part_len-end.ensures.within in let other = c.if-end-rest.false in omega arith in
    rw c.after-rest.ensures (c.loop-rest.invariant ∙ part_passed separates_parts is_link_type c.loop-rest.rest.now c.part_len-end.result c.part_len-end.ensures.place low (sym c.is_link_type.ensures ∙ c.if-is_link_type.false))
