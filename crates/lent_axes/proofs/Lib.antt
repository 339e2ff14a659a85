mod AxisLaws
