use Rattle.tdl_loads.proofs.LoadSteps.{loads_failed, loads_over, loads_read}
use Rattle.tdl_loads.proofs.named_files.read_if_named.Goals as goal

pub returns-in-Ok : goal.returns-in-Ok
returns-in-Ok g c = rw c.in-Some.is (loads_read c.args.kind c.in-Some.name.now _ (g.F.Files.state c.args.files.now) (g.F.Files.state c.read_file.new.files) c.in-Ok.bytes c.in-Ok.ensures.whole
    (rw c.limit.ensures at c.in-Ok.ensures.within) c.in-Ok.ensures.named c.in-Ok.ensures.rest)

pub returns-in-Err-Over : goal.returns-in-Err-Over
returns-in-Err-Over g c = rw c.in-Some.is (loads_over c.args.kind c.in-Some.name.now _ (g.F.Files.state c.args.files.now) (g.F.Files.state c.read_file.new.files) _ (rw c.in-Err-Over.field-0-is at c.in-Err-Over.ensures.over)
    (rw (c.in-Err-Over.field-0-is, c.limit.ensures) at c.in-Err-Over.ensures.over_length) c.in-Err-Over.ensures.named (rw c.in-Err-Over.field-0-is at c.in-Err-Over.ensures.rest))

pub returns-in-Err-Failed : goal.returns-in-Err-Failed
returns-in-Err-Failed g c = rw c.in-Some.is (loads_failed c.args.kind c.in-Some.name.now _ (g.F.Files.state c.args.files.now) (g.F.Files.state c.read_file.new.files)
    c.in-Err-Failed.ensures.named (rw c.in-Err-Failed.field-0-is at c.in-Err-Failed.ensures.rest))
