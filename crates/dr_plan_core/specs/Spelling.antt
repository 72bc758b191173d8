-- How a plan's parts are written.
use Rattle.std.specs.Prelude.{pos, map}
use Rattle.dr_base.specs.Syntaxes.{syntax_uid}
use Rattle.dr_route.specs.declared.accept.AcceptRow.{AcceptRow}
use Rattle.dr_plan_model.specs.declared.plan.Node.{Node}
use Rattle.dr_plan_model.specs.declared.plan.Flow.{Flow}
use Rattle.dr_plan_model.specs.Networks.{Network}
use Rattle.dr_plan_text.specs.declared.words.AcceptText.{AcceptText}
use Rattle.dr_plan_text.specs.declared.words.NodeText.{NodeText}
use Rattle.dr_plan_text.specs.declared.words.FlowText.{FlowText}
use Rattle.dr_plan_text.specs.declared.words.PlanText.{PlanText}

-- an accept row as it is written: its transfer syntaxes by their UIDs, all else as it stands
abbrev pub written_row : AcceptRow → AcceptText
written_row row =
    record { from = row.from; class = row.class; syntaxes = map syntax_uid row.syntaxes }

-- a node as it is written: its accept rows as these are written, all else as it stands
abbrev pub written_node : Node → NodeText
written_node node = record {
  name = node.name;
  listens = node.listens;
  max_pdu = pos node.max_pdu;
  accepts = map written_row node.accepts;
  rules = node.rules;
}

-- a flow as it is written: its transfer syntaxes by their UIDs, all else as it stands
abbrev pub written_flow : Flow → FlowText
written_flow flow = record {
  at = flow.at;
  to = flow.to;
  classes = flow.classes;
  syntaxes = map syntax_uid flow.syntaxes;
  modalities = flow.modalities;
  stations = flow.stations;
}

-- a plan as it is written: its format, and its nodes and flows in order; the digest of the text is
-- no part of it
abbrev pub written_plan : Network → PlanText
written_plan plan = record {
  format = plan.format;
  nodes = map written_node plan.nodes;
  flows = map written_flow plan.flows;
}
