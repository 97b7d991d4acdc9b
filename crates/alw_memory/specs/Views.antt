-- What is told of a home's entry.
use Rattle.std.specs.Prelude.{◌≡◌}
use Rattle.alw_num.specs.NodeSets.{nodes_of}
use Rattle.alw_model.specs.LimitLess.{Directory}
use Rattle.alw_memory.specs.declared.views.HomeView.{HomeView}

-- a view shows an entry: state, meta state, the hardware and the software set, the counter and the bytes
pub record IsViewOf (view : HomeView) (entry : Directory) : Type 0 where
  pub state : view.state ≡ entry.state
  pub meta : view.meta ≡ entry.meta
  pub hardware : nodes_of view.hw ≡ entry.hardware
  pub software : nodes_of view.sw ≡ entry.software
  pub acks : view.acks ≡ entry.acks
  pub body : view.body ≡ entry.body
