-- The carriers of all nodes, node after node, and the line invariant of a view by its tests.
use Rattle.std.proofs.Common.{◌≡◌, ℕ, ◌+◌, Bool, ◌&&◌, IsTrue, ◌↔◌, ◌++◌, length, sym, arith}
use Rattle.std.specs.List.{list_all, range_with_len}
use Rattle.alw_num.proofs.Lists.{number_more}
use Rattle.alw_model.specs.Lines.{LineState, carried, carriers}
use Rattle.alw_model.specs.LineInvariant.{all_carried}
use Rattle.alw_model.specs.Checks.{is_sound_line}
use Rattle.alw_model.proofs.Journals.{and_parts, and_is}
use Rattle.alw_model.proofs.Soundness.{each_below, all_below, line_by_test, test_of_line}
use Rattle.law_line.proofs.Tests.{carriers_length}
use Rattle.alw_laws.specs.declared.views.LineView.{LineView}
use Rattle.alw_laws.specs.Views.{entry_of_view, line_in, pending_in, shows_once, MeetsInvariant}

pub all_counted : (count : ℕ) (s : LineState) → all_carried count s ≡ length (carriers count s)
all_counted count s = sym (carriers_length count s)

-- the carriers at one node more
pub carriers_more : (count : ℕ) (s : LineState) → carriers (count + 1) s ≡ carriers count s ++ carried (s.node count)
carriers_more count s = number_more (λ i. carried (s.node i)) count

-- a view meets the invariant exactly where its two tests hold
module _ (count : ℕ) (view : LineView) where
  abbrev is_sound : Bool
  is_sound = is_sound_line count (line_in view) (entry_of_view view.home) (pending_in view)

  abbrev is_single : Bool
  is_single = list_all (shows_once view) (range_with_len 0 count)

  by_tests : IsTrue (is_sound && is_single) → MeetsInvariant count view
  by_tests is =
      let parts = and_parts is_sound is_single is in
      record {
        line = line_by_test _ _ _ _ parts.0;
        once = λ number l. each_below (shows_once view) 0 count number parts.1 (omega arith) (omega arith);
      }

  tests_of : MeetsInvariant count view → IsTrue (is_sound && is_single)
  tests_of meets = and_is _ _ (test_of_line _ _ _ _ meets.line) (all_below (shows_once view) 0 count (λ number l. meets.once number (omega arith)))

  pub meets_by : (fits once : Bool) → fits ≡ is_sound → once ≡ is_single → IsTrue (fits && once) ↔ MeetsInvariant count view
  meets_by fits once p q = rw (p, q) (by_tests, tests_of)
