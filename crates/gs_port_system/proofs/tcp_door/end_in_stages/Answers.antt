use Rattle.std.proofs.Common.{rules, ◌≡◌, false, true, ℕ, List, Result, Ok, Err, is_ok, refl}
use Rattle.std.specs.declared.io.Error.{Error as SystemError}
use Rattle.gs_port_system.specs.Calls.{DropsRest, IfShut}
use Rattle.gs_port_system.proofs.tcp_door.end_in_stages.Goals as goal

-- the rest was dropped after a shutdown
dropped : {R : Type 0} (reads : R → List ℕ → ℕ → Result ℕ SystemError → R → Type 0) (until : ℕ) (said : Result (Unit {0}) SystemError) (shut last : R)
    → is_ok said ≡ true → DropsRest reads until shut last → IfShut reads until said shut last
dropped reads until (Ok done) shut last e rest = rest
dropped reads until (Err error) shut last e rest = absurd (let f : false ≡ true = e in cc)

-- nothing was done after a failed shutdown
undone : {R : Type 0} (reads : R → List ℕ → ℕ → Result ℕ SystemError → R → Type 0) (until : ℕ) (said : Result (Unit {0}) SystemError) (shut : R)
    → is_ok said ≡ false → IfShut reads until said shut shut
undone reads until (Ok done) shut e = absurd (let f : true ≡ false = e in cc)
undone reads until (Err error) shut e = refl

pub returns-then-is_ok : goal.returns-then-is_ok
returns-then-is_ok g c = record {
  called = (
    record {
      time = c.now.result;
      asked = c.now.ensures.called;
      before = c.unwrap-stream.result.now;
      was = search rules;
      said = c.shut_write.result;
      shut = c.shut_write.new.self;
      last = c.drop_rest.new.stream;
      called = c.shut_write.ensures.called;
      dropped = dropped _ _ c.shut_write.result _ _ (search rules) (search rules);
    },
    refl,
  );
}

pub returns-else-is_ok : goal.returns-else-is_ok
returns-else-is_ok g c = record {
  called = (
    record {
      time = c.now.result;
      asked = c.now.ensures.called;
      before = c.unwrap-stream.result.now;
      was = search rules;
      said = c.shut_write.result;
      shut = c.shut_write.new.self;
      last = c.shut_write.new.self;
      called = c.shut_write.ensures.called;
      dropped = undone _ _ c.shut_write.result _ (search rules);
    },
    refl,
  );
}
