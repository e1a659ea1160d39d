-- Laws of a run, and that a run's pieces leave what it leaves.
pub mod RenderLaws
pub mod PieceLaws
-- The sample writer: a segment has the points' values, and what is put at a sample.
pub mod Segments
pub mod Writing
