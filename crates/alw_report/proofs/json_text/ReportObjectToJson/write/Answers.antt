-- Each member stands behind those before it.
use Rattle.alw_report.proofs.json_text.ReportObjectToJson.write.Goals as goal

pub returns : goal.returns
returns c =
    rw (
      c.in_ok-put-10.ensures,
      c.in_ok-put-9.ensures,
      c.in_ok-put-8.ensures,
      c.in_ok-put-7.ensures,
      c.in_ok-put-6.ensures,
      c.in_ok-put-5.ensures,
      c.in_ok-put-4.ensures,
      c.in_ok-put-3.ensures,
      c.in_ok-put-2.ensures,
      c.in_ok-put.ensures,
      c.in_ok-begin_object.ensures,
      c.members.ensures,
      c.members-2.ensures,
      c.members-3.ensures,
      c.members-4.ensures,
    ) at c.end_object.ensures
