use Rattle.std.proofs.Common.{refl, sym}
use Rattle.std.proofs.lemmas.Bool.{false≢true}
use Rattle.tdl_arguments.specs.Requests.{known_values}
use Rattle.tdl_run.specs.RanSupport.{ends_of}
use Rattle.tdl_run.specs.Works.{counts_line, merged_line, migrated_line}
use Rattle.tdl_run.proofs.GenLemmas.{gen_ran}
use Rattle.tdl_run.proofs.RanLemmas.{left_door, ran_of_line}
use Rattle.tdl_run.proofs.ServeLemmas.{serve_ran}
use Rattle.tdl_run.proofs.SiteLemmas.{resolve_ran}
use Rattle.tdl_run.proofs.commands.run_command.Goals as goal

pub returns-in-Canon : goal.returns-in-Canon
returns-in-Canon g c =
    rw c.in-Canon.is (left_door refl (λ heads. absurd (false≢true heads)) (λ none. absurd (false≢true (sym none))) refl c.canonize.ensures.0 (λ lines. c.canonize.ensures.1))

pub returns-in-Translate : goal.returns-in-Translate
returns-in-Translate g c =
    rw c.in-Translate.is (left_door refl (λ heads. absurd (false≢true heads)) (λ none. absurd (false≢true (sym none))) refl c.translate_loaded.ensures.0 (λ lines. c.translate_loaded.ensures.1))

pub returns-in-ClassCanon : goal.returns-in-ClassCanon
returns-in-ClassCanon g c =
    rw c.in-ClassCanon.is (left_door refl (λ heads. absurd (false≢true heads)) (λ none. absurd (false≢true (sym none))) refl c.link_classes.ensures.0 (λ lines. c.link_classes.ensures.1))

pub returns-in-ClassUri : goal.returns-in-ClassUri
returns-in-ClassUri g c =
    rw c.in-ClassUri.is (left_door refl (λ heads. absurd (false≢true heads)) (λ none. absurd (false≢true (sym none))) refl c.write_classes.ensures.0 (λ lines. c.write_classes.ensures.1))

pub returns-in-DumpRead : goal.returns-in-DumpRead
returns-in-DumpRead g c =
    rw c.in-DumpRead.is (left_door refl (λ heads. absurd (false≢true heads)) (λ none. absurd (false≢true (sym none))) refl c.show_dumps.ensures.0 (λ lines. c.show_dumps.ensures.1))

pub returns-in-DumpWrite : goal.returns-in-DumpWrite
returns-in-DumpWrite g c =
    rw c.in-DumpWrite.is (left_door refl (λ heads. absurd (false≢true heads)) (λ none. absurd (false≢true (sym none))) refl c.write_dumps.ensures.0 (λ lines. c.write_dumps.ensures.1))

pub returns-in-Check : goal.returns-in-Check
returns-in-Check g c =
    let w = c.print_made.ensures (counts_line c.args.loaded.now) c.counts_line.ensures in
    rw c.in-Check.is (left_door refl (λ heads. absurd (false≢true heads)) (λ none. refl) refl
    (w.0, w.1, ran_of_line _ _ _ _ _ _ w.0 c.print_made.result (record { is_output = refl; none_finished = refl; done = refl }) w.2 refl) (λ lines. absurd (false≢true lines)))

pub migrated_line-requires : goal.migrated_line-requires
migrated_line-requires g c = c.requires.source c.in-Migrate.is

pub returns-in-Migrate : goal.returns-in-Migrate
returns-in-Migrate g c =
    let w = c.print_made-in-Migrate.ensures (migrated_line c.args.loaded.now) c.migrated_line.ensures in
    rw c.in-Migrate.is (left_door refl (λ heads. absurd (false≢true heads)) (λ none. refl) refl
    (w.0, w.1, ran_of_line _ _ _ _ _ _ w.0 c.print_made-in-Migrate.result (record { is_output = refl; none_finished = refl; done = refl }) w.2 refl) (λ lines. absurd (false≢true lines)))

pub returns-in-Merge : goal.returns-in-Merge
returns-in-Merge g c =
    let w = c.print_made-in-Merge.ensures (merged_line c.args.loaded.now) c.merged_line.ensures in
    rw c.in-Merge.is (left_door refl (λ heads. absurd (false≢true heads)) (λ none. refl) refl
    (w.0, w.1, ran_of_line _ _ _ _ _ _ w.0 c.print_made-in-Merge.result (record { is_output = refl; none_finished = refl; done = refl }) w.2 refl) (λ lines. absurd (false≢true lines)))

pub returns-in-Resolve : goal.returns-in-Resolve
returns-in-Resolve g c =
    let e = c.resolve.ensures in
    let w = e.written in
    let before = ends_of (g.S.Source.state c.args.input.now) (g.K.Sink.state c.args.output.now) (g.D.Conn.state c.args.door.now) in
    let now = ends_of (g.S.Source.state c.resolve.new.input) (g.K.Sink.state c.resolve.new.output) (g.D.Conn.state c.args.door.now) in
    rw c.in-Resolve.is (left_door refl (λ heads. rw c.site_of.ensures at e.served) (λ none. absurd (false≢true (sym none))) refl
    (w.0, w.1, resolve_ran c.args.loaded.now (known_values c.args.values) before now w.0 c.resolve.result (rw c.site_of.ensures at w.2) e.count) (λ lines. absurd (false≢true lines)))

pub returns-in-Serve : goal.returns-in-Serve
returns-in-Serve g c =
    let e = c.serve.ensures in
    rw c.in-Serve.is (serve_ran c.args.loaded.now (known_values c.args.values) (g.S.Source.state c.args.input.now) (g.K.Sink.state c.args.output.now)
    (g.K.Sink.state c.serve.new.output) (g.D.Conn.state c.args.door.now) (g.D.Conn.state c.serve.new.door) c.serve.result
    (rw c.site_of-in-Serve.ensures at e.ran) e.opens e.door_count e.closed refl)

pub returns-in-Gen : goal.returns-in-Gen
returns-in-Gen g c =
    let w = c.generate.ensures in
    rw c.in-Gen.is (left_door refl (λ heads. absurd (false≢true heads)) (λ none. refl) refl (
      w.0,
      w.1,
      gen_ran c.args.loaded.now (known_values c.args.values) c.in-Gen.lines (g.S.Source.state c.args.input.now) (g.K.Sink.state c.args.output.now)
          (g.K.Sink.state c.generate.new.output) (g.D.Conn.state c.args.door.now) w.0 c.generate.result w.2,
    ) (λ lines. absurd (false≢true lines)))
