-- Monitors with numbers for names, and what they stand for.
use Rattle.std.specs.Prelude.{ℕ, List, All, map}
use Rattle.std.specs.Map.{keys_of}
use Rattle.credential_text.specs.declared.exprs.Expr.{Expr}
use Rattle.cred_graph.specs.declared.listeners.Listening.{Listening}
use Rattle.cred_graph.specs.Graph.{GraphState, Listens}
use Rattle.cred_graph.specs.Numbers.{IsEntity, IsNamed, entity_at}
use Rattle.cred_graph.specs.NodeLists.{IsOnce}
use Rattle.monitors.specs.MeetMonitor.{told_by}
use Rattle.search.specs.declared.findings.Monitor.{Monitor}
use Rattle.search.specs.declared.findings.Monitor.TheVariants as monitor
use Rattle.search.specs.declared.findings.NumberedMonitor.{NumberedMonitor}
use Rattle.search.specs.declared.findings.NumberedMonitor.TheVariants as numbered_monitor
use Rattle.search.specs.Net.{Said, IsLoad, outs_at}
use Rattle.search.specs.Answers.{Progress, progress}

-- what a node remembers
abbrev pub monitor_at : List Expr → NumberedMonitor → Monitor
monitor_at nodes numbered_monitor.Plain = monitor.Plain
monitor_at nodes (numbered_monitor.Link x) = monitor.Link (map (entity_at nodes) x)
monitor_at nodes (numbered_monitor.Meet x) = monitor.Meet (told_by (entity_at nodes) x)

-- the numbers that it remembers are entities'
abbrev pub IsMonitor : List Expr → NumberedMonitor → Type 0
IsMonitor nodes numbered_monitor.Plain = Unit {0}
IsMonitor nodes (numbered_monitor.Link x) = All (IsEntity nodes) x
IsMonitor nodes (numbered_monitor.Meet x) = All (IsEntity nodes) (keys_of x.lines)

-- what was found while a node answers a letter, and what it sends
abbrev pub progress_at : GraphState → List NumberedMonitor → List (ℕ × Said) → Progress
progress_at g ms outs = progress g (map (monitor_at g.nodes) ms) (outs_at g.nodes outs)

-- each entity that is named in a letter, in a monitor or by a listener has a node, and no other has the same
pub record AreNumbered (g : GraphState) (ms : List NumberedMonitor) (outs : List (ℕ × Said)) : Type 0 where
  pub once : IsOnce g.nodes
  pub loads : All (λ o. IsLoad g.nodes o.1) outs
  pub monitors : All (IsMonitor g.nodes) ms
  pub ports : (n : ℕ) (l : Listening) → Listens g n l → IsNamed g.nodes l.port
