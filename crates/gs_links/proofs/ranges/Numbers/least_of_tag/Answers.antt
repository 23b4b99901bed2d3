use Rattle.gs_links.proofs.NumberLemmas.{least_in_lower}
use Rattle.gs_links.proofs.ranges.Numbers.least_of_tag.Goals as goal

pub returns : goal.returns
returns c =
    let low = rw (c.make_ascii_lowercase.ensures.after, c.copy_from_slice.ensures.after) at c.least_of_lowered.ensures in
    least_in_lower c.args.self.now c.args.tag.now c.least_of_lowered.result low
