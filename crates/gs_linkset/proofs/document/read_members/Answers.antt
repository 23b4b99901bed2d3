use Rattle.std.proofs.Common.{◌≡◌, None, Some, arith}
use Rattle.json.specs.Json.{read_key}
use Rattle.gs_linkset.proofs.DocumentLemmas.{none_yet}
use Rattle.gs_linkset.proofs.StreamLemmas.{key_stops, member_next, member_stops, members_end, no_member_yet}
use Rattle.gs_linkset.proofs.document.read_members.Goals as goal

pub members-init : goal.members-init
members-init c = no_member_yet c.args.depth c.args.reader.now _ (none_yet c.in_ok-linkset_place.field-0 c.in_ok-linkset_place.ensures)

pub returns-in_default-clause-syntax : goal.returns-in_default-clause-syntax
returns-in_default-clause-syntax c refused =
    let l = c.members in
    key_stops c.args.depth c.args.reader.now l.reader l.reader l.linkset l.invariant c.in_default.ensures.value

pub returns-in_default-key-clause-ok : goal.returns-in_default-key-clause-ok
returns-in_default-key-clause-ok c =
    let l = c.members in
    let s = c.next_key.new.self in
    let end : read_key l.reader ≡ Some (None, s) = grind arith in
    members_end c.args.depth c.args.reader.now l.reader s l.linkset l.invariant end

pub members-preserved : goal.members-preserved
members-preserved c =
    let l = c.members in
    let s = c.next_key.new.self in
    let name = c.in-Some.name.now in
    let named : read_key l.reader ≡ Some (Some name, s) = grind arith in
    let done = c.in_ok-read_member.ensures in
    member_next c.args.depth c.args.reader.now l.reader s l.linkset l.invariant c.read_member.new.reader name c.read_member.new.linkset named done.shorter done.ok

pub returns-in_err-read_member-clause-syntax : goal.returns-in_err-read_member-clause-syntax
returns-in_err-read_member-clause-syntax c refused =
    let l = c.members in
    let s = c.next_key.new.self in
    let name = c.in-Some.name.now in
    let named : read_key l.reader ≡ Some (Some name, s) = grind arith in
    member_stops c.args.depth c.args.reader.now l.reader s l.linkset l.invariant name named (c.read_member.ensures.syntax (grind arith))
